-- Making room: a new entry at the log's end, and, where its instance has d entries already, the first of those leaves.
use Rattle.std.proofs.Common.{◌≡◌, ℕ, zero, suc, ◌-◌, ◌<◌, ◌≤◌, true, false, cond, eqb, ltb, List, [], ◌∷◌, ◌++◌, map, length, take, drop, replicate, sym, refl, ap, ◌∙◌, append-nil, arith, length-append, ltb-false, ltb-true, eqb-true}
use mathlib.Core.Option.{Option, some, none}
use lib.ListN.{length-map}
use Rattle.model.specs.Model.{Place, gone, held, push, pushed_out}
use Rattle.model.specs.Story.{Entry as Told, Every, entry_keys}
use Rattle.model.proofs.Laws.{every_append, place_of, places_of, places-push, drop-replicate-append, map-append}
use Rattle.model.specs.PairLaws.{split}
use Rattle.rust_model.specs.Maps.{entry, get, remove, remove_stamp}
use Rattle.rust_model.specs.DataSampleCache.{DataSamples, keys_to_remove, remove_stamps, remove_samples, removed_handles, handle_in}
use Rattle.rust_model.specs.Equal.{handles}
use Rattle.rust_model.proofs.MapLaws.{same-eqb, remove-append, remove-none, stamp-none}
use Rattle.rust_model.proofs.Alike.{Kept, key_at, mine, stored, samples, Rising, Few}
use Rattle.rust_model.proofs.Log.{samples-on, rising-on, every-stamps, sample_at, get-samples, drop_first, drop-mine, drop-samples}

-- ---- which keys are removed
none-gone : (d : ℕ) (s : List ℕ) → length s ≤ d → keys_to_remove (some d) s ≡ []
none-gone d s h = ap (λ (n : ℕ). take n s) (less (length s) d h)
  where
    less : (a b : ℕ) → a ≤ b → a - b ≡ 0
    less a b h = omega arith

one-gone : (d j : ℕ) (s : List ℕ) → length s ≡ d → keys_to_remove (some d) (j ∷ s) ≡ j ∷ []
one-gone d j s h = ap (λ (n : ℕ). take n (j ∷ s)) (more (length s) d h)
  where
    more : (a b : ℕ) → a ≡ b → suc a - b ≡ 1
    more a b h = omega arith

-- ---- which places an instance has
full-places : (d : ℕ) (es : List Told) → length es ≡ d → places_of (some d) es ≡ map place_of es
unfolding places_of
full-places d es h = drop-replicate-append d (length es) gone (map place_of es) ∙ ap (λ (n : ℕ). replicate n gone ++ drop (length es - d) (map place_of es)) (same d (length es) h)
    ∙ ap (λ (n : ℕ). drop n (map place_of es)) (same (length es) d (sym h))
  where
    same : (a b : ℕ) → b ≡ a → a - b ≡ 0
    same a b q = omega arith

over-places : (d : ℕ) (e : Told) (es : List Told) → length es ≡ d → places_of (some d) (e ∷ es) ≡ places_of (some d) es
unfolding places_of
over-places d e es h = drop-replicate-append d (suc (length es)) gone (place_of e ∷ map place_of es) ∙ ap (λ (n : ℕ). replicate n gone ++ drop (suc (length es) - d) (place_of e ∷ map place_of es)) (none_left d (length es) h)
    ∙ ap (λ (n : ℕ). drop n (place_of e ∷ map place_of es)) (one-over (length es) d h) ∙ sym (full-places d es h)
  where
    none_left : (a b : ℕ) → b ≡ a → a - suc b ≡ 0
    none_left a b q = omega arith

    one-over : (a b : ℕ) → a ≡ b → suc a - b ≡ 1
    one-over a b q = omega arith

part-places : (d : ℕ) (es : List Told) → length es < d → pushed_out (some d) (places_of (some d) es) ≡ none
unfolding places_of pushed_out
part-places d es h = ap (pushed_out (some d)) (drop-replicate-append d (length es) gone (map place_of es)) ∙ go (d - length es) (left d (length es) h)
  where
    left : (a b : ℕ) → b < a → 0 < a - b
    left a b q = omega arith

    go : (n : ℕ) → 0 < n → pushed_out (some d) (replicate n gone ++ drop (length es - d) (map place_of es)) ≡ none
    go zero q = absurd (omega arith)
    go (suc n) q = refl

-- ---- the first entry of an instance
first-later : (n : ℕ) (log : List Kept) (e : Told) (es : List Told) → Rising log → mine n log ≡ e ∷ es → Every (λ j. e.sample.key < j) (entry_keys es)
unfolding mine
first-later n [] e es r h = let z : ◌≡◌ {A = ℕ} 0 1 = cc in absurd (omega arith)
first-later n (k ∷ log) e es r h = split (eqb k.name n)
    (λ q. go (rw q at h))
    (λ q. first-later n log e es r.1 (rw q at h))
  where
    go : k.told ∷ mine n log ≡ e ∷ es → Every (λ j. e.sample.key < j) (entry_keys es)
    go h = let p : k.told ≡ e = cc in let q : mine n log ≡ es = cc in rw (← p, ← q) (every-stamps (λ j. key_at k < j) n log r.0)

first-got : (d : DataSamples) (n : ℕ) (log : List Kept) (e : Told) (es : List Told) → Every (λ k. get (key_at k) d ≡ sample_at k) log → mine n log ≡ e ∷ es
    → get e.sample.key d ≡ sample_at (record { name = n; told = e })
unfolding mine
first-got d n [] e es g h = let z : ◌≡◌ {A = ℕ} 0 1 = cc in absurd (omega arith)
first-got d n (k ∷ log) e es g h = split (eqb k.name n)
    (λ q. go q (rw q at h))
    (λ q. first-got d n log e es g.1 (rw q at h))
  where
    go : eqb k.name n ≡ true → k.told ∷ mine n log ≡ e ∷ es → get e.sample.key d ≡ sample_at (record { name = n; told = e })
    go q h = let p : k.told ≡ e = cc in rw (← p, ← eqb-true k.name n q) g.0

-- ---- the log after making room
unfoldable pub trim : Option ℕ → ℕ → List Kept → List Kept
trim none n log = log
trim (some d) n log = cond (ltb (length (mine n log)) d) log (drop_first n log)

module _ (n : ℕ) (log : List Kept) (k : Kept) (rises : Rising log) (below : Every (λ j. key_at j < key_at k) log) (fresh : k.told.taken ≡ false) where
  abbrev stamps : List ℕ
  stamps = entry_keys (mine n log) ++ key_at k ∷ []

  abbrev all : DataSamples
  all = samples log ++ entry (key_at k) (stored k) ∷ []

  pub record Evicts (keep : Option ℕ) (now : List Kept) : Type 0 where
    pub stamps-left : remove_stamps (keys_to_remove keep stamps) stamps ≡ entry_keys (mine n now ++ k.told ∷ [])
    pub samples-left : remove_samples (keys_to_remove keep stamps) all ≡ samples now ++ entry (key_at k) (stored k) ∷ []
    pub handles-gone : removed_handles (keys_to_remove keep stamps) all ≡ handles (pushed_out keep (places_of keep (mine n log)))
    pub places-now : push keep (places_of keep (mine n log)) (held k.told.sample) ≡ places_of keep (mine n now ++ k.told ∷ [])
    pub few-now : Few keep (mine n now ++ k.told ∷ [])

  stays : (keep : Option ℕ) → keys_to_remove keep stamps ≡ [] → pushed_out keep (places_of keep (mine n log)) ≡ none → Few keep (mine n log ++ k.told ∷ []) → Evicts keep log
  unfolding remove_stamps remove_samples removed_handles
  stays keep g o f = record {
    stamps-left = rw g (sym (map-append _ (mine n log) (k.told ∷ [])));
    samples-left = rw g;
    handles-gone = rw (g, o);
    places-now = ap (push keep (places_of keep (mine n log))) (sym here) ∙ places-push keep (mine n log) k.told;
    few-now = f;
  }
    where
      here : place_of k.told ≡ held k.told.sample
      here = rw fresh

  leaves : (d : ℕ) (e : Told) (es : List Told) → mine n log ≡ e ∷ es → length (e ∷ es) ≡ d → Evicts (some d) (drop_first n log)
  unfolding remove_stamps remove_samples removed_handles remove_stamp pushed_out
  leaves d e es h l = record {
    stamps-left = ap (λ (g : List ℕ). remove_stamps g stamps) one ∙ ap (λ (t : List Told). remove_stamp old (entry_keys t ++ key_at k ∷ [])) h
        ∙ rw same-eqb (stamp-none old (entry_keys es ++ key_at k ∷ []) later) ∙ sym (ap (λ (t : List Told). entry_keys (t ++ k.told ∷ [])) rest ∙ map-append _ es (k.told ∷ []));
    samples-left = ap (λ (g : List ℕ). remove_samples g all) one ∙ remove-append old (samples log) (entry (key_at k) (stored k) ∷ [])
        ∙ ap (λ (t : DataSamples). t ++ remove old (entry (key_at k) (stored k) ∷ [])) (drop-samples n log e es rises h)
        ∙ ap (λ (t : DataSamples). samples (drop_first n log) ++ t) (remove-none old (entry (key_at k) (stored k) ∷ []) (lower, tt));
    handles-gone = ap (λ (g : List ℕ). removed_handles g all) one ∙ append-nil (handle_in (get old all)) ∙ ap handle_in got
        ∙ out ∙ sym (ap (λ (t : List Told). handles (pushed_out (some d) (places_of (some d) t))) h ∙ ap (λ (t : List Place). handles (pushed_out (some d) t)) (full-places d (e ∷ es) l));
    places-now = ap (push (some d) (places_of (some d) (mine n log))) (sym here) ∙ places-push (some d) (mine n log) k.told
        ∙ ap (λ (t : List Told). places_of (some d) (t ++ k.told ∷ [])) h ∙ over-places d e (es ++ k.told ∷ []) many ∙ sym (ap (λ (t : List Told). places_of (some d) (t ++ k.told ∷ [])) rest);
    few-now = (omega (arith, ap (λ (t : List Told). length (t ++ k.told ∷ [])) rest, many), omega arith);
  }
    where
      old : ℕ
      old = e.sample.key

      here : place_of k.told ≡ held k.told.sample
      here = rw fresh

      rest : mine n (drop_first n log) ≡ es
      rest = drop-mine n log ∙ ap (drop 1) h

      many : length (es ++ k.told ∷ []) ≡ d
      many = simp length-append (omega arith)

      one : keys_to_remove (some d) stamps ≡ old ∷ []
      one = ap (λ (t : List Told). keys_to_remove (some d) (entry_keys t ++ key_at k ∷ [])) h ∙ one-gone d old (entry_keys es ++ key_at k ∷ []) (simp (length-append, length-map) (omega arith))

      below_new : Every (λ j. j < key_at k) (entry_keys (e ∷ es))
      below_new = rw h at (every-stamps (λ j. j < key_at k) n log below)

      lower : old < key_at k
      lower = below_new.0

      later : Every (λ j. old < j) (entry_keys es ++ key_at k ∷ [])
      later = every_append (λ j. old < j) (entry_keys es) (key_at k ∷ []) (first-later n log e es rises h) (lower, tt)

      got : get old all ≡ sample_at (record { name = n; told = e })
      got = first-got all n log e es (front log (rw (samples-on log k fresh) at (get-samples (log ++ k ∷ []) (rising-on log k rises below)))) h
        where
          front : (l : List Kept) → Every (λ j. get (key_at j) all ≡ sample_at j) (l ++ k ∷ []) → Every (λ j. get (key_at j) all ≡ sample_at j) l
          front [] q = tt
          front (j ∷ l) q = (q.0, front l q.1)

      out : handle_in (sample_at (record { name = n; told = e })) ≡ handles (pushed_out (some d) (map place_of (e ∷ es)))
      out = split e.taken (λ t. rw t) (λ t. rw t)

  pub evicts : (keep : Option ℕ) → Few keep (mine n log) → Evicts keep (trim keep n log)
  unfolding trim pushed_out
  evicts none f = stays none refl refl tt
  evicts (some d) f = split (ltb (length (mine n log)) d)
      (λ q. rw q (stays (some d) (none-gone d stamps (simp (length-append, length-map) (omega (arith, ltb-true (length (mine n log)) d q)))) (part-places d (mine n log) (ltb-true (length (mine n log)) d q))
      (simp length-append (omega (arith, ltb-true (length (mine n log)) d q)), f.1)))
      (λ q. rw q (go (mine n log) refl (ltb-false (length (mine n log)) d q)))
    where
      go : (es : List Told) → mine n log ≡ es → d ≤ length (mine n log) → Evicts (some d) (drop_first n log)
      go [] h l = absurd (omega (arith, ap length h))
      go (e ∷ es) h l = leaves d e es h (omega (arith, ap length h))
