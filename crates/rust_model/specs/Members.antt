-- The grounds have members: the cache's with both ways in which an add stands on it, the topic cache's from its defaults.
use Rattle.std.proofs.Common.{inl, inr, arith}
use Rattle.std.specs.Prelude.{ℕ, true, [], ◌∷◌, replicate, refl}
use Rattle.std.proofs.Math.Option.{some}
use Rattle.keys.specs.Keys as K
use Rattle.readcondition.specs.Masks as Mk
use Rattle.model.specs.Pairs as P
use Rattle.model.specs.Model as M
use Rattle.model.specs.Model.{Call, add, read_or_take, fresh}
use Rattle.model.specs.Story.{run, trace, keys_from}
use Rattle.model.specs.Topic as T
use Rattle.rust_model.specs.Ground.{Ground}
use Rattle.rust_model.specs.TopicEqual as TopicEqual

abbrev arrives : ℕ → ℕ → Call
arrives n t = add (record { name = n; writer = replicate 16 0; seq = 1; time = t; kind = 1; handle = 1 })

-- two adds, a take of the first, an add later than every key, and one at an earlier time while the last key, 300, is live
pub ground-has-members : Ground (fresh (some 2) 4) [] (arrives 7 100 ∷ arrives 7 200 ∷ read_or_take true (record { key = 100; name = 7 } ∷ []) 256 ∷ arrives 9 300 ∷ arrives 7 50 ∷ [])
unfolding M.answers M.step M.adding M.accept M.old_of M.well_formed M.arrived M.roomy M.slot_of M.refusal_of M.find M.put M.next_name M.live_in M.lives M.count M.lowest_from M.push M.pushed_out M.window M.hits_in M.hits M.choosing M.keyed M.latest M.last_total M.ranks_at M.infos_of M.shown M.access M.accessing P.among P.bad_from P.insert P.sorted Mk.chosen_by Mk.is_valid K.key_of run trace keys_from
ground-has-members = (
  inl tt,
  refl,
  (
    inl (omega arith, tt),
    refl,
    (
      tt,
      refl,
      (
        inl (omega arith, (omega arith, tt)),
        refl,
        (inr (300, 9, refl, (_, (inl refl, refl))), refl, tt),
      ),
    ),
  ),
)

abbrev changes : ℕ → ℕ → ℕ → T.Call
changes t s size = T.add (record { time = t; writer = replicate 16 0; seq = s; handle = 1; size = size })

-- an add, one that collects and is held already, a removal and a range
pub topic-ground-has-members : TopicEqual.Ground (T.fresh T.defaults)
    (changes 100 1 10 ∷ changes 100 1 70000 ∷ changes 90 8 2000 ∷ T.remove_before 101 ∷ T.range 0 200 1 ∷ [])
unfolding T.step T.collects T.removal T.count_below T.holds_pair T.same_bytes T.within K.key_of
topic-ground-has-members = (omega arith, refl, (omega arith, refl, (omega arith, refl, (omega arith, refl, (omega arith, refl, tt)))))
