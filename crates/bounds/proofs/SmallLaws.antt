-- Every call keeps the samples small, and shows only small infos.
use Rattle.std.specs.Prelude.{◌≡◌, Bool, true, false, cond, ℕ, ◌≤◌, ◌^◌, eqb, leb, length}
use Rattle.std.proofs.Math.Path.{refl}
use mathlib.Core.List.{List, [], ◌∷◌, ◌++◌, map}
use Rattle.std.proofs.Math.Option.{Option, some, none}
use native.Mathlib.Omega.{arith}
use Rattle.std.proofs.Common.{eqb-true, SFits}
use Rattle.std.specs.Int.{w64}
use Rattle.lists.specs.Every.{Every, every_append, every_map}
use Rattle.sampleinfo.specs.States.{handle_of}
use Rattle.sampleinfo.specs.Lifecycle.{counts_of, becomes}
use Rattle.sampleinfo.specs.Samples.{unread, total_of}
use Rattle.sampleinfo.specs.declared.Ranks.{Ranks}
use Rattle.model.specs.Pairs.{Pair}
use Rattle.model.specs.Model.{Model, Instance, Live, Arrival, SetUp, Call, set_up, add, no_writers, choose, read_or_take, next_key, Place, gone, held, find, put, live_in, lives, push, mark, listed_in, touch, listed, left, old_of, refusal_of, arrived, body_in, state_in, accept, adding, dying, access, accessing, fine, within, keep_of, fresh, setting_up, step, keyed, named, latest, latest_total, instance_total, last_total, Edition, by_the_rust, ranks_at, info_of, info_at, infos_of, choices, choosing, scope}
use Rattle.model.proofs.Laws.{put-there, put-here}
use Rattle.model.proofs.Counting.{window-live}
use Rattle.model.specs.PairLaws.{split}
use Rattle.readcondition.specs.Masks.{is_valid}
use Rattle.refine.specs.Good.{Good, Bounded}
use Rattle.refine.proofs.GoodLaws.{good-accept}
use Rattle.refine.specs.Entries.{live-append}
use Rattle.refine.specs.Accepted.{every-find, every-put, every-old}
use Rattle.refine.proofs.Found.{every-over, every-keyed}
use Rattle.refine.proofs.Latest.{every-latest}
use Rattle.infos.specs.RankLaws.{mag-rank}
use Rattle.bounds.specs.Small.{Small, SmallIn, AllSmall, SmallCall, SmallInfo, SmallAnswer}

abbrev SmallLive : Live → Type 0
SmallLive s = Small s.sample

-- ---- set-up

pub small-fresh : (d : Option ℕ) (i : ℕ) → AllSmall (fresh d i)
unfolding Every
small-fresh d i = tt

small-setting_up : (m : Model) → AllSmall m → (u : SetUp) → AllSmall (setting_up m u).then
unfolding setting_up
small-setting_up m s u = split (within u) (λ e. rw e (small-fresh (keep_of u) u.instances)) (λ e. rw e s)

-- ---- an accepted add: the total is that of the instance, the handle that of the call

put_holds : (P : Instance → Type 0) (j : Instance) (is : List Instance) → Every P (put j is) → P j
unfolding put Every
put_holds P j [] h = h.0
put_holds P j (i ∷ is) h = split (eqb i.name j.name)
    (λ e. (rw (put-here j i is e) at h).0)
    (λ e. put_holds P j is (rw (put-there j i is e) at h).1)

small-more : (ps : List Place) (s : Live) → SmallLive s → Every SmallLive (live_in ps) → Every SmallLive (live_in (ps ++ held s ∷ []))
unfolding live_in Every
small-more ps s p h = rw (live-append ps (held s ∷ [])) (every_append SmallLive (live_in ps) (s ∷ []) h (p, tt))

small-push : (k : Option ℕ) (ps : List Place) (s : Live) → SmallLive s → Every SmallLive (live_in ps) → Every SmallLive (live_in (push k ps (held s)))
unfolding push live_in Every
small-push none ps s p h = small-more ps s p h
small-push (some d) [] s p h = tt
small-push (some d) (gone ∷ ps) s p h = small-more ps s p h
small-push (some d) (held x ∷ ps) s p h = small-more ps s p h.1

handle-in : (a : Arrival) → handle_of (body_in a) ≡ a.handle
handle-in a = split (eqb a.kind 2) (λ e. rw e) (λ e. rw e)

module _ (m : Model) (g : Good m) (h : AllSmall m) (a : Arrival) (c : SmallCall (add a)) where
  fresh-small : (i : Instance) → i ≡ old_of m a → find a.name m.instances ≡ none → SmallIn i
  unfolding old_of Every
  fresh-small i p q = rw (p, q, window-live m.keep) tt

  small-accept : refusal_of m a ≡ 0 → AllSmall (accept m a).then
  unfolding accept arrived
  small-accept e = every-put SmallIn (arrived m.keep (old_of m a) a (held _)) m.instances (small-push m.keep (old_of m a).places _ new (every-old SmallIn m a h fresh-small)) h
    where
      new : Small (unread (counts_of (becomes (old_of m a).meta (state_in a))) a.writer a.seq (body_in a))
      new = record { total = omega (arith, put_holds Bounded _ m.instances (good-accept m g a e).totals); handle = omega (arith, handle-in a) }

  small-adding : AllSmall (adding m a).then
  unfolding adding
  small-adding = split (eqb (refusal_of m a) 0) (λ e. rw e (small-accept (eqb-true (refusal_of m a) 0 e))) (λ e. rw e h)

-- ---- the no-writers event

small-dying : (m : Model) → AllSmall m → (n : ℕ) → AllSmall (dying m (find n m.instances)).then
small-dying m h n = go (find n m.instances) refl
  where
    go : (o : Option Instance) → find n m.instances ≡ o → AllSmall (dying m o).then
    go none e = h
    go (some i) e = every-put SmallIn (left i) m.instances (every-find SmallIn n m.instances i h e) h

-- ---- reading and taking

small-touch : (t : Bool) (n : ℕ) (ps : List Pair) (qs : List Place) → Every SmallLive (live_in qs) → Every SmallLive (live_in (map (touch t n ps) qs))
unfolding live_in Every
small-touch t n ps [] h = tt
small-touch t n ps (gone ∷ qs) h = small-touch t n ps qs h
small-touch t n ps (held s ∷ qs) h = go t (listed_in n ps s) (small-touch t n ps qs h.1)
  where
    go : (u b : Bool) → Every SmallLive (live_in (map (touch t n ps) qs)) → Every SmallLive (live_in (cond b (mark u s) (held s) ∷ map (touch t n ps) qs))
    go true true k = k
    go false true k = (record { total = h.0.total; handle = h.0.handle }, k)
    go u false k = (h.0, k)

small-accessing : (t : Bool) (m : Model) → AllSmall m → (ps : List Pair) (room : ℕ) → AllSmall (accessing t m ps room).then
unfolding accessing access
small-accessing t m h ps room = split (fine m ps)
    (λ e. split (leb (length ps) room) (λ l. rw (e, l) all) (λ l. rw (e, l) h))
    (λ e. rw e h)
  where
    all : Every SmallIn (map (listed t ps) m.instances)
    all = every-over SmallIn (listed t ps) m.instances (every_map SmallIn (λ i. SmallIn (listed t ps i)) m.instances (λ i k. small-touch t i.name ps i.places k) h)

-- ---- every call

pub small-step : (m : Model) → Good m → AllSmall m → (c : Call) → SmallCall c → AllSmall (step m c).then
unfolding step
small-step m g h (set_up u) c = small-setting_up m h u
small-step m g h (add a) c = small-adding m g h a c
small-step m g h (no_writers n) c = small-dying m h n
small-step m g h (choose w x room) c = h
small-step m g h (read_or_take t ps room) c = small-accessing t m h ps room
small-step m g h (next_key n) c = h

-- ---- what a list shows: in edition 1 ranks are of two totals, of an instance or of a live sample each

record SmallRanks (r : Ranks) : Type 0 where
  generation : SFits w64 r.generation_rank
  absolute : SFits w64 r.absolute_generation_rank

small-info : (r : Ranks) (i : Instance) (s : Live) → SmallRanks r → SmallLive s → SmallInfo (info_of r i s)
small-info r i s k h = record {
  handle = h.handle;
  disposed = omega (arith, h.total);
  no_writers = omega (arith, h.total);
  generation = k.generation;
  absolute = k.absolute;
}

every-lives : (P : Live → Type 0) (is : List Instance) → Every (λ i. Every P (live_in i.places)) is → Every P (lives is)
unfolding lives Every
every-lives P [] h = tt
every-lives P (i ∷ is) h = every_append P (live_in i.places) (lives is) h.0 (every-lives P is h.1)

module _ (m : Model) (g : Good m) (h : AllSmall m) where
  latest-small : latest_total (latest (lives m.instances)) ≤ 2147483647
  latest-small = go (latest (lives m.instances)) refl
    where
      go : (o : Option Live) → latest (lives m.instances) ≡ o → latest_total o ≤ 2147483647
      go none e = omega arith
      go (some s) e = omega (arith, (every-latest SmallLive (lives m.instances) s (every-lives SmallLive m.instances h) e).total)

  last-small : (ps : List Pair) → last_total m ps ≤ 2147483647
  unfolding last_total
  last-small [] = omega arith
  last-small (p ∷ []) = go (find p.name m.instances) refl
    where
      go : (o : Option Instance) → find p.name m.instances ≡ o → instance_total o ≤ 2147483647
      go none e = omega arith
      go (some i) e = every-find Bounded p.name m.instances i g.totals e
  last-small (p ∷ q ∷ ps) = last-small (q ∷ ps)

  module _ (e : Edition) (whole : List Pair) where
    small-ranks : (behind : List Pair) (i : Instance) (s : Live) → SmallLive s → SmallRanks (ranks_at e m whole behind i s)
    unfolding ranks_at
    small-ranks behind i s k = go e
      where
        go : (e : Edition) → SmallRanks (ranks_at e m whole behind i s)
        go by_the_rust = record {
          generation = record { sfits = mag-rank (last_total m whole) (total_of s.sample) (2 ^ 63) (omega (arith, last-small whole)) (omega (arith, k.total)) };
          absolute = record { sfits = mag-rank (latest_total (latest (lives m.instances))) (total_of s.sample) (2 ^ 63) (omega (arith, latest-small)) (omega (arith, k.total)) };
        }

    small_at : (ps : List Pair) (p : Pair) (o : Option Instance) → find p.name m.instances ≡ o → Every SmallInfo (info_at (ranks_at e m whole ps) o (named p o))
    unfolding Every
    small_at ps p none f = tt
    small_at ps p (some i) f = go (keyed p.key (live_in i.places)) refl
      where
        go : (o : Option Live) → keyed p.key (live_in i.places) ≡ o → Every SmallInfo (info_at (ranks_at e m whole ps) (some i) o)
        go none q = tt
        go (some s) q =
            let k : SmallLive s = every-keyed SmallLive p.key (live_in i.places) s (every-find SmallIn p.name m.instances i h f) q in
            (small-info (ranks_at e m whole ps i s) i s (small-ranks ps i s k) k, tt)

    small-infos : (ps : List Pair) → Every SmallInfo (infos_of e m whole ps)
    unfolding infos_of Every
    small-infos [] = tt
    small-infos (p ∷ ps) =
        let o : Option Instance = find p.name m.instances in
        every_append SmallInfo (info_at (ranks_at e m whole ps) o (named p o)) (infos_of e m whole ps) (small_at ps p o refl) (small-infos ps)

  small-shown : (t : Bool) (ps : List Pair) (room : ℕ) → SmallAnswer (accessing t m ps room).answer
  unfolding accessing access
  small-shown t ps room = split (fine m ps)
      (λ e. split (leb (length ps) room) (λ l. rw (e, l) (small-infos by_the_rust ps ps)) (λ l. rw (e, l) tt))
      (λ e. rw e tt)

pub small-answer : (m : Model) → Good m → AllSmall m → (c : Call) → SmallAnswer (step m c).answer
unfolding step setting_up adding accept choosing
small-answer m g h (set_up u) = split (within u) (λ e. rw e tt) (λ e. rw e tt)
small-answer m g h (add a) = split (eqb (refusal_of m a) 0) (λ e. rw e tt) (λ e. rw e tt)
small-answer m g h (no_writers n) = go (find n m.instances)
  where
    go : (o : Option Instance) → SmallAnswer (dying m o).answer
    go none = tt
    go (some i) = tt
small-answer m g h (choose w x room) = split (is_valid x)
    (λ e. split (leb (length (choices x (scope w m.instances))) room) (λ l. rw (e, l) tt) (λ l. rw (e, l) tt))
    (λ e. rw e tt)
small-answer m g h (read_or_take t ps room) = small-shown m g h t ps room
small-answer m g h (next_key n) = tt
