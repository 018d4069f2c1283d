-- Reading and taking on states that are alike: the same infos, and the states stay alike.
use Rattle.std.proofs.Common.{◌≡◌, ℕ, ◌≤◌, Bool, true, false, cond, eqb, List, [], ◌∷◌, ◌++◌, map, length, sym, refl, ap, ◌∙◌, subst, inl, inr, true≢false, arith, eq-eqb, eqb-true}
use mathlib.Core.Option.{Option, some, none}
use lib.ListN.{length-map}
use Rattle.sampleinfo.specs.Counts.{total}
use Rattle.sampleinfo.specs.Lifecycle.{accessed_of}
use Rattle.sampleinfo.specs.Samples.{sample_state_of, total_of}
use Rattle.sampleinfo.specs.declared.NotAliveGenerationCounts.{NotAliveGenerationCounts}
use Rattle.sampleinfo.specs.declared.ViewState.{ViewState}
use Rattle.sampleinfo.specs.declared.InstanceState.{InstanceState}
use Rattle.sampleinfo.specs.declared.Info.{Info}
use Rattle.sampleinfo.specs.declared.Sample.{Sample}
use Rattle.model.specs.Pairs.{Pair}
use Rattle.model.specs.PairLaws.{pair_is, split}
use Rattle.model.proofs.PairLaws.{repeats-distinct}
use Rattle.model.specs.Views.{rank_from, viewed}
use Rattle.model.specs.Model.{Model, Live, Instance, find, next_name, live_in, lives, keyed, named, present, is_live, fine, latest, latest_total, last_total, view_in, info_of, info_at, infos_of, infos_for, shown, touch, listed, access, Edition, by_the_rust, ranks_at}
use Rattle.model.specs.BadLaws.{all_live}
use Rattle.model.proofs.BadLaws.{fine-live, fine-once}
use Rattle.model.specs.Story.{Entry as Told, Every, AtMost, map_o, untaken, entry_keys, touch_entry}
use Rattle.model.specs.Demand3.{In, Distinct, times_held}
use Rattle.model.proofs.Laws.{every-imp, find-name, find-map, places_of, places-touch}
use Rattle.model.proofs.Refusals.{both, none-some}
use Rattle.rust_model.specs.Maps.{Outcome, gives, try, unwrap, Entry, get, last_entry, or_last, first_above}
use Rattle.rust_model.specs.DataSampleCache.{InstanceMetaData, SampleWithMetaData, DataSamples, DataSampleCache, Generations, Pass, Results, keep_count, make_sample_info, record_instance_generation_viewed, mark_instances_viewed, accessed, pass, last_of, by_keys}
use Rattle.rust_model.proofs.MapLaws.{get_remove_other, get-modify}
use Rattle.rust_model.proofs.Alike.{Kept, key_at, mine, stored, samples, Few, Matches, Twins, Alike}
use Rattle.rust_model.proofs.Log.{sample_at, get-samples}
use Rattle.rust_model.proofs.Fold.{known, own-found, fold_log, fold-ext, gather-all}
use Rattle.rust_model.proofs.Chosen.{view-same}
use Rattle.rust_model.proofs.Looks.{Both, both_found, every-both, live-is}
use Rattle.rust_model.proofs.Touch.{touched, stamps-touched, every-touched, rising-touched, mine-touched, touched_none, touched-twice, Owns, owns-touched, samples-touched}
use Rattle.rust_model.proofs.Latest.{over, over-swap, latest-gather, SameLast, latest-last}
use Rattle.rust_model.proofs.Viewed.{total_at, gens_after, KeysApart, none-shown, gens-shown, marked, seen_by, get-marked, above-marked, Held, mark-is, gens-held, ticks-seen}

-- ---- a live pair's key finds its sample
keyed-got : (all : DataSamples) (k n : ℕ) (s : Live) (log : List Kept) → Every (λ x. get (key_at x) all ≡ sample_at x) log → keyed k (untaken (mine n log)) ≡ some s → get k all ≡ some (record { key = n; sample = s.sample })
unfolding mine untaken keyed
keyed-got all k n s [] g h = let z : ◌≡◌ {A = ℕ} 0 1 = cc in absurd (omega arith)
keyed-got all k n s (x ∷ log) g h = split (eqb x.name n)
    (λ a. split x.told.taken
    (λ b. keyed-got all k n s log g.1 (rw (a, b) at h))
    (λ b. split (eqb (key_at x) k)
    (λ e. here a b e (rw (a, b, e) at h))
    (λ e. keyed-got all k n s log g.1 (rw (a, b, e) at h))))
    (λ a. keyed-got all k n s log g.1 (rw a at h))
  where
    here : eqb x.name n ≡ true → x.told.taken ≡ false → eqb (key_at x) k ≡ true → some x.told.sample ≡ some s → get k all ≡ some (record { key = n; sample = s.sample })
    here a b e q = let p : x.told.sample ≡ s = cc in
        ap (λ (j : ℕ). get j all) (sym (eqb-true (key_at x) k e)) ∙ g.0 ∙ at a b ∙ ap (λ (y : Live). some (record { key = n; sample = y.sample })) p
      where
        at : eqb x.name n ≡ true → x.told.taken ≡ false → sample_at x ≡ some (record { key = n; sample = x.told.sample.sample })
        at a b = rw (b, eqb-true x.name n a)

abbrev name_in : Option SampleWithMetaData → ℕ
name_in none = 0
name_in (some v) = v.key

-- an entry under the pair's key is the pair's
owns-all : (all : DataSamples) (p : Pair) (v : Sample) (log : List Kept) → Every (λ x. get (key_at x) all ≡ sample_at x) log → get p.key all ≡ some (record { key = p.name; sample = v }) → Every (Owns p) log
owns-all all p v [] g h = tt
owns-all all p v (x ∷ log) g h = (split (eqb (key_at x) p.key) (λ e. e ∙ sym (rw e (eq-eqb x.name p.name (same e)))) (λ e. e ∙ sym (rw e)), owns-all all p v log g.1 h)
  where
    same : eqb (key_at x) p.key ≡ true → x.name ≡ p.name
    same e = go x.told.taken (sym g.0 ∙ ap (λ (j : ℕ). get j all) (eqb-true (key_at x) p.key e) ∙ h)
      where
        go : (b : Bool) → cond b none (some (stored x)) ≡ some (record { key = p.name; sample = v }) → x.name ≡ p.name
        go true q = absurd (none-some none refl q)
        go false q = ap name_in q

-- the keys of distinct live pairs are distinct
apart_from : (all : DataSamples) (p : Pair) (v : Sample) (ps : List Pair) → get p.key all ≡ some (record { key = p.name; sample = v })
    → Every (λ q. (w : Sample) × (get q.key all ≡ some (record { key = q.name; sample = w }))) ps → ¬ In p ps → Every (λ q. eqb p.key q.key ≡ false) ps
apart_from all p v [] g h d = tt
apart_from all p v (q ∷ ps) g h d = (split (eqb p.key q.key) (λ e. absurd (d (inl (pair_is p q.key q.name (sym (eqb-true p.key q.key e)) (same (eqb-true p.key q.key e)))))) (λ e. e), apart_from all p v ps g h.1 (λ x. d (inr x)))
  where
    same : p.key ≡ q.key → q.name ≡ p.name
    same e = ap name_in (sym h.0.1 ∙ ap (λ (j : ℕ). get j all) (sym e) ∙ g)

-- ---- the loop
after-other : (t : Bool) (k j : ℕ) (all : DataSamples) → eqb k j ≡ false → get j (accessed t k all) ≡ get j all
after-other true k j all e = get_remove_other k j all e
after-other false k j all e = get-modify k j _ all ∙ rw e

module _ (m : Model) (c : DataSampleCache) (log : List Kept) (h : Alike m c log) where
  -- what a live pair names, on both sides
  pub record Facts (p : Pair) : Type 0 where
    pub own : Both m c log h p.name
    pub live : Live
    pub is-named : keyed p.key (untaken (mine p.name log)) ≡ some live
    pub is-got : get p.key (samples log) ≡ some (record { key = p.name; sample = live.sample })

  facts : (p : Pair) → is_live m p ≡ true → Facts p
  facts p e = go (find p.name m.instances) refl e
    where
      on : (i : Instance) → find p.name m.instances ≡ some i → (o : Option Live) → keyed p.key (untaken (mine p.name log)) ≡ o → present o ≡ true → Facts p
      on i f none k q = absurd (true≢false (sym q))
      on i f (some s) k q = record {
        own = record { here = i; there = (both_found m c log h p.name i f).0; is-here = f; is-there = (both_found m c log h p.name i f).1; matches = (both_found m c log h p.name i f).2 };
        live = s;
        is-named = k;
        is-got = keyed-got (samples log) p.key p.name s log (get-samples log h.rises) k;
      }

      go : (o : Option Instance) → find p.name m.instances ≡ o → present (named p o) ≡ true → Facts p
      go none f q = absurd (true≢false (sym q))
      go (some i) f q = on i f (keyed p.key (untaken (mine p.name log))) refl (ap (λ (ss : List Live). present (keyed p.key ss)) (sym (live-is m c log h p.name i f)) ∙ q)

  all-facts : (ps : List Pair) → all_live m ps ≡ true → Every Facts ps
  unfolding all_live
  all-facts [] e = tt
  all-facts (p ∷ ps) e = (facts p (both (is_live m p) (all_live m ps) e).0, all-facts ps (both (is_live m p) (all_live m ps) e).1)

  keys-apart : (ps : List Pair) → Every Facts ps → Distinct ps → KeysApart ps
  keys-apart [] f d = tt
  keys-apart (p ∷ ps) f d = (apart_from (samples log) p f.0.live.sample ps f.0.is-got (every-imp (λ q x. (x.live.sample, x.is-got)) ps f.1) d.0, keys-apart ps f.1 d.1)

  -- one info of the list `whole`, with the ranks of edition 1
  abbrev mrs : ℕ
  mrs = latest_total (latest (lives m.instances))

  info-same : (p : Pair) (f : Facts p) (whole ps : List Pair) → make_sample_info (record { key = p.name; sample = f.live.sample }) f.own.there (length ps) mrs (last_total m whole)
      ≡ info_of (ranks_at by_the_rust m whole ps f.own.here f.live) f.own.here f.live
  unfolding ranks_at
  info-same p f whole ps = ap (λ (v : ViewState). at v f.own.there.instance_state) (view-same m.keep (mine p.name log) f.own.here f.own.there f.own.matches f.live.sample)
      ∙ ap (at (view_in f.own.here f.live)) f.own.matches.state
    where
      at : ViewState → InstanceState → Info
      at v s = record {
        body = f.live.sample.body;
        sample_state = sample_state_of f.live.sample;
        view_state = v;
        instance_state = s;
        generation_counts = f.live.sample.generation_counts;
        sample_rank = length ps;
        generation_rank = rank_from (last_total m whole) (total_of f.live.sample);
        absolute_generation_rank = rank_from mrs (total_of f.live.sample);
        publication_handle = f.live.sample.writer_guid;
        sequence_number = f.live.sample.sequence_number;
      }

  infos-cons : (p : Pair) (f : Facts p) (e : Edition) (whole ps : List Pair)
      → infos_of e m whole (p ∷ ps) ≡ info_of (ranks_at e m whole ps f.own.here f.live) f.own.here f.live ∷ infos_of e m whole ps
  unfolding infos_of
  infos-cons p f e whole ps = rw f.own.is-here (ap (λ (o : Option Live). info_at (ranks_at e m whole ps) (some f.own.here) o ++ infos_of e m whole ps) (ap (keyed p.key) (live-is m c log h p.name f.own.here f.own.is-here) ∙ f.is-named))

  pass-is : (t : Bool) (whole : List Pair) (now : List Kept) (gens : Generations) (ps : List Pair) → Every Facts ps → KeysApart ps
      → Every (λ p. get p.key (samples now) ≡ get p.key (samples log)) ps → Every (λ p. Every (Owns p) now) ps
      → pass t c.instance_map mrs (last_total m whole) (samples now) gens ps ≡ gives (record { infos = infos_of by_the_rust m whole ps; datasamples = samples (touched t ps now); generations = gens_after (samples log) gens ps })
  unfolding pass gens_after
  pass-is t whole now gens [] f d g o = unfold infos_of in (ap (λ (l : List Kept). gives (record { infos = []; datasamples = samples l; generations = gens })) (sym (touched_none t now)))
  pass-is t whole now gens (p ∷ ps) f d g o =
      rw (
        g.0 ∙ f.0.is-got,
        f.0.own.is-there,
        samples-touched t p now o.0,
        f.0.is-got,
        pass-is t whole (touched t (p ∷ []) now) (record_instance_generation_viewed gens f.0.live.sample.generation_counts p.name) ps f.1 d.1 (others ps d.0 g.1) (every-imp (λ q x. owns-touched q t (p ∷ []) now x) ps o.1),
      )
      (ap (λ (l : List Kept). at (make_sample_info (record { key = p.name; sample = f.0.live.sample }) f.0.own.there (length ps) mrs (last_total m whole) ∷ infos_of by_the_rust m whole ps) l) (touched-twice t p ps now)
      ∙ ap (λ (l : List Info). at l (touched t (p ∷ ps) now)) (ap (λ (x : Info). x ∷ infos_of by_the_rust m whole ps) (info-same p f.0 whole ps) ∙ sym (infos-cons p f.0 by_the_rust whole ps)))
    where
      at : List Info → List Kept → Outcome Pass
      at l x = gives (record { infos = l; datasamples = samples x; generations = gens_after (samples log) (record_instance_generation_viewed gens f.0.live.sample.generation_counts p.name) ps })

      others : (qs : List Pair) → Every (λ q. eqb p.key q.key ≡ false) qs → Every (λ q. get q.key (samples now) ≡ get q.key (samples log)) qs
          → Every (λ q. get q.key (samples (touched t (p ∷ []) now)) ≡ get q.key (samples log)) qs
      others [] a b = tt
      others (q ∷ qs) a b = (ap (get q.key) (sym (samples-touched t p now o.0)) ∙ after-other t p.key q.key (samples now) a.0 ∙ b.0, others qs a.1 b.1)

  -- ---- the two latest totals
  last_some : (k : ℕ) (all : DataSamples) (v : SampleWithMetaData) → get k all ≡ some v → (e : Entry SampleWithMetaData) × (last_entry all ≡ some e)
  unfolding get last_entry
  last_some k [] v g = absurd (none-some none refl g)
  last_some k (e ∷ all) v g = go (last_entry all)
    where
      go : (o : Option (Entry SampleWithMetaData)) → (f : Entry SampleWithMetaData) × (or_last e o ≡ some f)
      go none = (e, refl)
      go (some f) = (f, refl)

  mrsic-is : (p : Pair) (ps : List Pair) → Facts p → Every Facts ps → (d : InstanceMetaData) × (get (last_of p ps).name c.instance_map ≡ some d) × (total d.latest_generation_available ≡ last_total m (p ∷ ps))
  unfolding last_of last_total
  mrsic-is p [] f fs = (f.own.there, f.own.is-there, rw f.own.is-here (ap total f.own.matches.counts))
  mrsic-is p (q ∷ qs) f fs = mrsic-is q qs fs.0 fs.1

  module _ (once : (n : ℕ) → times_held n m.instances ≤ 1) where
    latest-is : latest (lives m.instances) ≡ fold_log over (λ n. true) none log
    latest-is = latest-gather log m.instances (every-imp (λ i f. live-is m c log h i.name i f) m.instances (own-found m.instances once)) ∙ gather-all over over-swap none log h.rises m.instances once
        ∙ sym (fold-ext over (λ n. true) (λ n. known (find n m.instances)) none log (every-imp (λ k b. ap known (sym b.is-here)) log (every-both m c log h)))

    mrs-is : (e : Entry SampleWithMetaData) → last_entry (samples log) ≡ some e → total e.item.sample.generation_counts ≡ mrs
    mrs-is e q = go (latest (lives m.instances)) (rw (← latest-is, q) at (latest-last log h.rises))
      where
        go : (o : Option Live) → SameLast o (some e) → total e.item.sample.generation_counts ≡ latest_total o
        go none s = absurd s
        go (some s) q = ap total_of (sym q.1)

  -- ---- the states afterwards
  few-map : (keep : Option ℕ) (g : Told → Told) (es : List Told) → Few keep es → Few keep (map g es)
  few-map none g es f = tt
  few-map (some d) g es f = (simp length-map f.0, f.1)

  module _ (t : Bool) (ps : List Pair) (x : DataSampleCache) (gens : Generations) (qos : keep_count x.qos ≡ m.keep) (holds : x.datasamples ≡ samples (touched t ps log))
      (imds : x.instance_map ≡ marked gens c.instance_map) (totals : (n : ℕ) → total_at n gens ≡ shown n ps (untaken (mine n log))) where
    matches-listed : (n : ℕ) (i : Instance) (d : InstanceMetaData) → find n m.instances ≡ some i → Matches m.keep (mine n log) i d → Matches m.keep (mine n (touched t ps log)) (listed t ps i) (seen_by (get n gens) d)
    matches-listed n i d f q = record {
      places = ap (λ (o : ℕ). map (touch t o ps) i.places) name ∙ ap (map (touch t n ps)) q.places ∙ places-touch t n ps m.keep (mine n log) ∙ ap (places_of m.keep) (sym (mine-touched t n ps log));
      few = rw (mine-touched t n ps log) (few-map m.keep (touch_entry t n ps) (mine n log) q.few);
      stamps = same-stamps (get n gens) ∙ q.stamps ∙ sym (ap entry_keys (mine-touched t n ps log) ∙ stamps-touched t n ps (mine n log));
      state = same-state (get n gens) ∙ q.state;
      counts = same-counts (get n gens) ∙ q.counts;
      accessed = ticks-seen (get n gens) d ∙ ap (λ (o : ℕ). viewed o (total_at n gens)) q.accessed
          ∙ ap (viewed (accessed_of i.meta)) (totals n ∙ ap (shown n ps) (sym (live-is m c log h n i f)) ∙ ap (λ (o : ℕ). shown o ps (live_in i.places)) (sym name));
    }
      where
        name : i.name ≡ n
        name = find-name n m.instances i f

        same-stamps : (o : Option NotAliveGenerationCounts) → (seen_by o d).instance_samples ≡ d.instance_samples
        same-stamps none = refl
        same-stamps (some g) = refl

        same-state : (o : Option NotAliveGenerationCounts) → (seen_by o d).instance_state ≡ d.instance_state
        same-state none = refl
        same-state (some g) = refl

        same-counts : (o : Option NotAliveGenerationCounts) → (seen_by o d).latest_generation_available ≡ d.latest_generation_available
        same-counts none = refl
        same-counts (some g) = refl

    twins-listed : (n : ℕ) → Twins m.keep (mine n (touched t ps log)) (find n (map (listed t ps) m.instances)) (get n x.instance_map)
    twins-listed n = subst (λ o. Twins m.keep (mine n (touched t ps log)) o (get n x.instance_map)) (sym (find-map (listed t ps) (λ i. refl) n m.instances))
        (subst (λ o. Twins m.keep (mine n (touched t ps log)) (map_o (listed t ps) (find n m.instances)) o) (sym (ap (get n) imds ∙ get-marked n gens c.instance_map))
        (go (find n m.instances) (get n c.instance_map) refl (h.twins n)))
      where
        go : (o : Option Instance) (d : Option InstanceMetaData) → find n m.instances ≡ o → Twins m.keep (mine n log) o d → Twins m.keep (mine n (touched t ps log)) (map_o (listed t ps) o) (map_o (seen_by (get n gens)) d)
        go none none f q = (mine-touched t n ps log ∙ ap (map (touch_entry t n ps)) q.0, q.1)
        go none (some d) f q = absurd q
        go (some i) none f q = absurd q
        go (some i) (some d) f q = matches-listed n i d f q

    next-listed : (n : ℕ) (is : List Instance) → next_name n (map (listed t ps) is) ≡ next_name n is
    unfolding next_name
    next-listed n [] = refl
    next-listed n (i ∷ is) = rw (next-listed n is)

    alike-listed : Alike (access t m ps).then x (touched t ps log)
    unfolding access
    alike-listed = record {
      keeps = qos;
      holds = holds;
      twins = twins-listed;
      nexts = λ n. ap (first_above n) imds ∙ above-marked n gens c.instance_map ∙ h.nexts n ∙ sym (next-listed n m.instances);
      rises = rising-touched t ps log h.rises;
      top = every-touched (AtMost m.last) t ps log h.top;
    }

  -- ---- the whole call
  pub record Listed (t : Bool) (ps : List Pair) : Type 0 where
    pub cache : DataSampleCache
    pub gives-infos : by_keys t c ps ≡ gives (record { infos = infos_for m ps; cache = cache })
    pub stays-alike : Alike (access t m ps).then cache (touched t ps log)

  pub by-keys : ((n : ℕ) → times_held n m.instances ≤ 1) → (t : Bool) (ps : List Pair) → fine m ps ≡ true → Listed t ps
  unfolding by_keys
  by-keys once t [] e = record {
    cache = c;
    gives-infos = unfold infos_of in refl;
    stays-alike = alike-listed t [] c [] h.keeps (h.holds ∙ ap samples (sym (touched_none t log))) (unfold marked in refl) (λ n. unfold get in (sym (none-shown n (untaken (mine n log)))));
  }
  by-keys once t (p ∷ ps) e = record {
    cache = now;
    gives-infos = ap (λ (d : DataSamples). from d) h.holds ∙ rw (mrsic.1, newest.1, mrsic.2, mrs-is once newest.0 newest.1, pass-is t (p ∷ ps) log [] (p ∷ ps) fs apart (same (p ∷ ps)) (owned (p ∷ ps) fs), mark-is gens c.instance_map held);
    stays-alike = alike-listed t (p ∷ ps) now gens h.keeps refl refl (λ n. gens-shown (samples log) log h.rises n [] (p ∷ ps) (every-imp (λ q f. (f.live, f.is-named, f.is-got)) (p ∷ ps) fs) apart ∙ unfold get in refl);
  }
    where
      fs : Every Facts (p ∷ ps)
      fs = all-facts (p ∷ ps) (fine-live m (p ∷ ps) e)

      apart : KeysApart (p ∷ ps)
      apart = keys-apart (p ∷ ps) fs ((repeats-distinct (p ∷ ps)).0 (fine-once m (p ∷ ps) e))

      gens : Generations
      gens = gens_after (samples log) [] (p ∷ ps)

      mrsic : (d : InstanceMetaData) × (get (last_of p ps).name c.instance_map ≡ some d) × (total d.latest_generation_available ≡ last_total m (p ∷ ps))
      mrsic = mrsic-is p ps fs.0 fs.1

      newest : (x : Entry SampleWithMetaData) × (last_entry (samples log) ≡ some x)
      newest = last_some p.key (samples log) _ fs.0.is-got

      held : Every (λ g. Held c.instance_map g.at) gens
      held = gens-held (samples log) c.instance_map [] (p ∷ ps) (every-imp (λ q f. (f.own.there, f.own.is-there)) (p ∷ ps) fs) tt

      same : (qs : List Pair) → Every (λ q. get q.key (samples log) ≡ get q.key (samples log)) qs
      same [] = tt
      same (q ∷ qs) = (refl, same qs)

      owned : (qs : List Pair) → Every Facts qs → Every (λ q. Every (Owns q) log) qs
      owned qs f = every-imp (λ q x. owns-all (samples log) q x.live.sample log (get-samples log h.rises) x.is-got) qs f

      now : DataSampleCache
      now = record { qos = c.qos; datasamples = samples (touched t (p ∷ ps) log); instance_map = marked gens c.instance_map }

      from : DataSamples → Outcome Results
      from d = try (unwrap (get (last_of p ps).name c.instance_map)) (λ mrsic. try (unwrap (last_entry d)) (λ mrs.
          try (pass t c.instance_map (total mrs.item.sample.generation_counts) (total mrsic.latest_generation_available) d [] (p ∷ ps)) (λ done.
          try (mark_instances_viewed done.generations c.instance_map) (λ imds.
          gives (record { infos = done.infos; cache = record { qos = c.qos; datasamples = done.datasamples; instance_map = imds } })))))
