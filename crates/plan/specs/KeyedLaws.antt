-- What an add comes to, from the search for its instance, its key and its lifecycle step.
use Rattle.std.specs.Prelude.{◌≡◌, refl, Bool, true, false, ◌&&◌, cond, List, [], ◌∷◌, map, ◌⊎◌, ℕ, zero, suc, ◌+◌, ◌≤◌, ◌<◌, length, get_or, replicate, ltb, leb, eqb, Some, None, ok_or}
use Rattle.std.proofs.Math.Path.{sym, ap}
use Rattle.std.proofs.Math.Bool.{and-false}
use Rattle.std.proofs.Common.{inl, inr, ◌∙◌, not-suc-le-zero, le_of_suc-le-suc, arith, le-leb, eqb-true}
use Rattle.std.proofs.Math.Option.{Option, some, none}
use Rattle.std.specs.Prelude as rust
use Rattle.std.proofs.Math.Decide.{dec_lt}
use Rattle.std.proofs.lemmas.Bool.{lt-leb}
use Rattle.std.proofs.Math.ListN.{get_or-map}
use Rattle.keys.specs.Keys.{Issued, key_of}
use Rattle.sampleinfo.specs.Lifecycle.{lifecycle_of}
use Rattle.sampleinfo.specs.declared.InstanceState.{InstanceState}
use Rattle.sampleinfo.specs.declared.InstanceMetaData.{InstanceMetaData}
use Rattle.store.specs.Store.{Inst, Store, place_of, cells_for, fresh_inst, no_inst, with_meta, placing, living, keying, adding}
use Rattle.store.specs.Fit.{depth_of}
use Rattle.index.specs.Words.{region, meta_at}
use Rattle.index.specs.Memory.{cells_of, View, Tied, Held}
use Rattle.index.specs.MemoryLaws.{meta-is, held_of}
use Rattle.index.specs.declared.Cache.{Cache}
use Rattle.plan.specs.Plan.{wanted, Ready, Made}
use Rattle.plan.specs.PlaceLaws.{none-given, one-given, made-refused}
use Rattle.std.specs.declared.result.Result.{Result}
use Rattle.std.specs.declared.result.Result.TheVariants.{Ok, Err}
use Rattle.refusals.specs.declared.Refusal.{Refusal}
use Rattle.refusals.specs.declared.Refusal.TheVariants as refusal
use Rattle.plan.specs.declared.Planned.{Planned}

-- ---- places

pub place-le : (n : ℕ) (is : List Inst) → place_of n is ≤ length is
unfolding place_of
place-le n [] = omega arith
place-le n (i ∷ is) = go (eqb i.name n) (place-le n is)
  where
    go : (b : Bool) → place_of n is ≤ length is → cond b 0 (suc (place_of n is)) ≤ suc (length is)
    go true h = omega arith
    go false h = omega arith

-- at the place of a name stands the instance of that name
pub place-name : (n : ℕ) (is : List Inst) (d : Inst) → d.name ≡ n → (get_or is (place_of n is) d).name ≡ n
unfolding place_of
place-name n [] d e = e
place-name n (i ∷ is) d e = go (eqb i.name n) refl (place-name n is d e)
  where
    go : (b : Bool) → eqb i.name n ≡ b → (get_or is (place_of n is) d).name ≡ n → (get_or (i ∷ is) (cond b 0 (suc (place_of n is))) d).name ≡ n
    go true q h = eqb-true i.name n q
    go false q h = h

pub any-default : (is : List Inst) (i : ℕ) (d e : Inst) → i < length is → get_or is i d ≡ get_or is i e
any-default [] i d e h = absurd (not-suc-le-zero h)
any-default (x ∷ is) zero d e h = refl
any-default (x ∷ is) (suc i) d e h = any-default is i d e (le_of_suc-le-suc h)

pub fresh_cells : (k : Option ℕ) → cells_for k ≡ replicate (depth_of k) 256
fresh_cells none = refl
fresh_cells (some d) = refl

-- ---- the record as the add finds it

pub old-held : (ws : List ℕ) (held row : ℕ) (state : InstanceState) (x : InstanceMetaData) → x ≡ meta_at (region 32 128 ws) row → row < held
    → (s : Store) (n : ℕ) → Held s held ws → x ≡ (get_or s.insts row (fresh_inst s.keep n state)).meta
old-held ws held row state x e h s n t =
    let l : row < length s.insts = omega (arith, t.count) in
    e ∙ rw t.words (meta-is s t.fit row l) ∙ ap (λ (i : Inst). i.meta) (any-default s.insts row no_inst (fresh_inst s.keep n state) l)

-- ---- the instance

pub room-left : (n row room : ℕ) → row ≤ n → n ≤ room → leb n row && leb room n ≡ false → row < room
room-left n row room h k e = go (dec_lt row room)
  where
    go : Dec (row < room) → row < room
    go (yes m) = m
    go (no m) =
        let z : ◌≡◌ {A = Bool} true false = rw (le-leb n row (omega arith), le-leb room n (omega arith)) at e in
        let t : ◌≡◌ {A = ℕ} 0 1 = cc in absurd (omega arith)

module _ (h : Cache) (ws : List ℕ) (name time : ℕ) (state : InstanceState) (s : Store) (t : Tied s h ws) (next : Issued) (issued : Result ℕ Refusal) (ns : next ≡ key_of h.last time) (is : issued ≡ ok_or next refusal.NoLaterKey) where
  next-is : key_of s.last time ≡ next
  next-is = sym (ns ∙ ap (λ (v : View). key_of v.last time) t.head)

  pub no_key : (e : Refusal) → issued ≡ Err e → Made (adding s (wanted name time state)) (Err e) h ws
  unfolding adding
  no_key e z =
      let g : (next ≡ None) × (refusal.NoLaterKey ≡ e) = none-given issued next refusal.NoLaterKey is e z in
      rw (next-is, g.0, ← g.1) (made-refused s h ws refusal.NoLaterKey t)

  module _ (key : ℕ) (k : issued ≡ Ok key) (row : ℕ) (w : (z : Store) → Held z h.held ws → row ≡ place_of name z.insts) where
    keyed-is : adding s (wanted name time state) ≡ keying s (wanted name time state) key
    unfolding adding
    keyed-is = rw (next-is, one-given issued next refusal.NoLaterKey is key k)

    row_is : row ≡ place_of name s.insts
    row_is = w s (held_of s h ws t)

    row-le : row ≤ length s.insts
    row-le = rw row_is (place-le name s.insts)

    count_is : h.held ≡ length s.insts
    count_is = ap (λ (v : View). v.held) t.head

    room_is : h.room ≡ s.room
    room_is = ap (λ (v : View). v.room) t.head

    pub no_room : h.held ≤ row → h.room ≤ h.held → Made (adding s (wanted name time state)) (Err refusal.NoMoreInstances) h ws
    unfolding keying
    no_room m l =
        rw (keyed-is, ← row_is, le-leb (length s.insts) row (omega (arith, count_is)), le-leb s.room (length s.insts) (omega (arith, count_is, room_is)))
        (made-refused s h ws refusal.NoMoreInstances t)

    module _ (roomy : ((h.held ≤ row) × (h.held < h.room)) ⊎ (row < h.held)) where
      old : Inst
      old = get_or s.insts row (fresh_inst s.keep name state)

      has_room : leb (length s.insts) row && leb s.room (length s.insts) ≡ false
      has_room = go roomy
        where
          go : ((h.held ≤ row) × (h.held < h.room)) ⊎ (row < h.held) → leb (length s.insts) row && leb s.room (length s.insts) ≡ false
          go (inl m) = rw (lt-leb s.room (length s.insts) (omega (arith, count_is, room_is, m.1))) (and-false (leb (length s.insts) row))
          go (inr m) = rw (lt-leb (length s.insts) row (omega (arith, count_is)))

      living-is : adding s (wanted name time state) ≡ living s row old key (lifecycle_of old.meta state)
      unfolding keying old
      living-is = rw (keyed-is, ← row_is, has_room)

      ready : (y : InstanceMetaData) → Ready s row (with_meta old y)
      unfolding old
      ready y = record {
        place = row-le;
        space = room-left (length s.insts) row s.room row-le t.fit.few has_room;
        window = rw (← (fresh_cells s.keep)) (get_or-map cells_of s.insts row (fresh_inst s.keep name state));
      }

      named : name ≡ old.name
      unfolding old
      named = sym (ap (λ (p : ℕ). (get_or s.insts p (fresh_inst s.keep name state)).name) row_is ∙ place-name name s.insts (fresh_inst s.keep name state) refl)

      module _ (x : InstanceMetaData) (stepped : rust.Option InstanceMetaData) (got : Result InstanceMetaData Refusal) (xs : (z : Store) (n : ℕ) → Held z h.held ws → x ≡ (get_or z.insts row (fresh_inst z.keep n state)).meta)
          (ss : stepped ≡ lifecycle_of x state) (gs : got ≡ ok_or stepped refusal.NoMoreGenerations) where
        stepped-is : lifecycle_of old.meta state ≡ stepped
        unfolding old
        stepped-is = ap (λ (m : InstanceMetaData). lifecycle_of m state) (sym (xs s name (held_of s h ws t))) ∙ sym ss

        pub no_generation : (e : Refusal) → got ≡ Err e → Made (adding s (wanted name time state)) (Err e) h ws
        no_generation e z =
            let g : (stepped ≡ None) × (refusal.NoMoreGenerations ≡ e) = none-given got stepped refusal.NoMoreGenerations gs e z in
            rw (living-is, stepped-is, g.0, ← g.1) (made-refused s h ws refusal.NoMoreGenerations t)

        pub placed : (out : Result Planned Refusal) (head : Cache) (end : List ℕ) (y : InstanceMetaData) → got ≡ Ok y
            → ((z : Store) (i : Inst) → Tied z h ws → Ready z row i → name ≡ i.name → y ≡ i.meta → Made (placing z row i key) out head end)
            → Made (adding s (wanted name time state)) out head end
        placed out head end y z p = rw (living-is, stepped-is, one-given got stepped refusal.NoMoreGenerations gs y z) (p s (with_meta old y) t (ready y) named refl)
