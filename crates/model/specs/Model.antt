-- The cache as document 01 describes it: setting up, adding, dying, choosing, reading, taking. `step` says what each call answers and what it leaves.
use Rattle.std.specs.Prelude.{Some, None, Bool, true, false, ◌&&◌, ◌||◌, not, cond, List, [], ◌∷◌, ◌++◌, map, ℕ, zero, suc, ◌+◌, ◌*◌, length, drop, replicate, ltb, leb, eqb, ℤ, pos, negsuc}
use Rattle.std.proofs.Math.Option.{Option, some, none}
use Rattle.sampleinfo.specs.States.{handle_of, made_by}
use Rattle.sampleinfo.specs.Formed.{formed, body_for}
use Rattle.sampleinfo.specs.Counts.{total}
use Rattle.sampleinfo.specs.Lifecycle.{meta, state_of, counts_of, accessed_of, new_instance, is_last, becomes, no_writers_of}
use Rattle.sampleinfo.specs.Samples.{unread, marked_read, sample_state_of, total_of}
use Rattle.sampleinfo.specs.declared.ViewState.{ViewState}
use Rattle.sampleinfo.specs.declared.InstanceState.{InstanceState}
use Rattle.sampleinfo.specs.declared.InstanceMetaData.{InstanceMetaData}
use Rattle.sampleinfo.specs.declared.Body.{Body}
use Rattle.sampleinfo.specs.declared.Sample.{Sample}
use Rattle.sampleinfo.specs.declared.Info.{Info}
use Rattle.sampleinfo.specs.declared.Ranks.{Ranks}
use Rattle.readcondition.specs.Masks.{chosen_by, is_valid}
use Rattle.readcondition.specs.declared.ReadCondition.{ReadCondition}
use Rattle.keys.specs.Keys.{Last, Issued, key_of}
use Rattle.model.specs.Pairs.{Pair, among, bad_from, first_bad, none_bad, Hit, sorted, pairs_in}
use Rattle.model.specs.Views.{view_of, greater, viewed, rank_from}

-- ---- the cache

-- a live sample: its key, its slot, and the record that the slot holds
pub record Live : Type 0 where
  pub key : ℕ
  pub slot : ℕ
  pub sample : Sample

-- one of the last d places of an instance: never used or taken, or a live sample
pub data Place : Type 0 where
  gone : Place
  held : Live → Place

-- an instance: its key, the record of its life, and its places, oldest first
pub record Instance : Type 0 where
  pub name : ℕ
  pub meta : InstanceMetaData
  pub places : List Place

-- the keep count, if there is one; how many instances are allowed; the last key issued; the instances in order of arrival
pub record Model : Type 0 where
  pub keep : Option ℕ
  pub room : ℕ
  pub last : Last
  pub instances : List Instance

-- ---- calls and answers

pub record SetUp : Type 0 where
  pub mode : ℕ
  pub keep : ℤ
  pub instances : ℕ

pub record Arrival : Type 0 where
  pub name : ℕ
  pub writer : List ℕ
  pub seq : ℕ
  pub time : ℕ
  pub kind : ℕ
  pub handle : ℕ

-- `choose` is over all instances or within one; `read_or_take` reads (false) or takes (true). Their last number is the room of the
-- lent result buffer, in pairs or in infos
pub data Call : Type 0 where
  set_up : SetUp → Call
  add : Arrival → Call
  no_writers : ℕ → Call
  choose : Option ℕ → ReadCondition → ℕ → Call
  read_or_take : Bool → List Pair → ℕ → Call
  next_key : ℕ → Call

pub data Answer : Type 0 where
  refused : ℕ → Answer
  ok : Answer
  added : ℕ → ℕ → Option ℕ → Answer
  selected : List Pair → Answer
  infos : List Info → Answer
  next : Option ℕ → Answer

pub record Step : Type 0 where
  pub answer : Answer
  pub then : Model

-- "Every refusal returns its number only; state and lent buffers stay as found."
abbrev pub refuse : Model → ℕ → Step
refuse m n = record { answer = refused n; then = m }

abbrev pub reply : Model → Answer → Step
reply m x = record { answer = x; then = m }

-- ---- setting up

-- "Mode 1 KeepLast, keep count d. Mode 2 KeepAll with a per-instance limit, which acts as d."
abbrev pub counts_kept : ℕ → Bool
counts_kept mode = eqb mode 1 || eqb mode 2

-- "Mode 3 KeepAll without one .. Mode 4 no history policy"
abbrev pub counts_none : ℕ → Bool
counts_none mode = eqb mode 3 || eqb mode 4

-- "In modes 1 and 2: d at least 1 and i*d at most 256."
abbrev pub keep_fits : ℤ → ℕ → Bool
keep_fits (pos d) i = leb 1 d && leb (i * d) 256
keep_fits (negsuc d) i = false

abbrev pub is_zero : ℤ → Bool
is_zero (pos d) = eqb d 0
is_zero (negsuc d) = false

-- "Instances i: 1 to 32." "keep field 0" in modes 3 and 4
unfoldable pub within : SetUp → Bool
within u = (leb 1 u.instances && leb u.instances 32) && ((counts_kept u.mode && keep_fits u.keep u.instances) || (counts_none u.mode && is_zero u.keep))

abbrev pub depth_of : ℤ → ℕ
depth_of (pos d) = d
depth_of (negsuc d) = 0

-- mode 3: no keep count; mode 4: d = 1
unfoldable pub keep_of : SetUp → Option ℕ
keep_of u = cond (eqb u.mode 3) none (cond (eqb u.mode 4) (some 1) (some (depth_of u.keep)))

-- "An accepted set-up makes the cache fresh"
abbrev pub fresh : Option ℕ → ℕ → Model
fresh d i = record { keep = d; room = i; last = None; instances = [] }

unfoldable pub setting_up : Model → SetUp → Step
setting_up m u = cond (within u) (record { answer = ok; then = fresh (keep_of u) u.instances }) (refuse m 2)

-- ---- instances

unfoldable pub find : ℕ → List Instance → Option Instance
find n [] = none
find n (i ∷ is) = let r : Option Instance = find n is in cond (eqb i.name n) (some i) r

-- in the place that the name has, or at the end
unfoldable pub put : Instance → List Instance → List Instance
put j [] = j ∷ []
put j (i ∷ is) = let r : List Instance = put j is in cond (eqb i.name j.name) (j ∷ is) (i ∷ r)

abbrev pub least : Option ℕ → ℕ → Option ℕ
least none n = some n
least (some m) n = some (cond (ltb n m) n m)

-- "the smallest held instance key above the given one, held or not"
unfoldable pub next_name : ℕ → List Instance → Option ℕ
next_name n [] = none
next_name n (i ∷ is) = let r : Option ℕ = next_name n is in cond (ltb n i.name) (least r i.name) r

-- ---- live samples

unfoldable pub live_in : List Place → List Live
live_in [] = []
live_in (gone ∷ ps) = live_in ps
live_in (held s ∷ ps) = s ∷ live_in ps

unfoldable pub lives : List Instance → List Live
lives [] = []
lives (i ∷ is) = live_in i.places ++ lives is

-- how many samples pass a test
unfoldable pub count : (Live → Bool) → List Live → ℕ
count p [] = 0
count p (s ∷ ss) = cond (p s) 1 0 + count p ss

abbrev pub in_slot : ℕ → Live → Bool
in_slot k s = eqb s.slot k

-- the first of the n slots from k on that no sample is in, or k + n
unfoldable pub lowest_from : ℕ → ℕ → List Live → ℕ
lowest_from zero k ss = k
lowest_from (suc n) k ss = let r : ℕ = lowest_from n (k + 1) ss in cond (eqb (count (in_slot k) ss) 0) k r

-- ---- keeping: "A sample is live while it is among the last d accepted of its instance (mode 3: any of them) and not taken."

-- the places of a new instance
unfoldable pub window : Option ℕ → List Place
window none = []
window (some d) = replicate d gone

-- a window of d places moves on by one; with no keep count it grows
unfoldable pub push : Option ℕ → List Place → Place → List Place
push none ps p = ps ++ p ∷ []
push (some d) ps p = drop 1 (ps ++ p ∷ [])

-- "the handle pushed out, if any"
unfoldable pub pushed_out : Option ℕ → List Place → Option ℕ
pushed_out none ps = none
pushed_out (some d) [] = none
pushed_out (some d) (gone ∷ ps) = none
pushed_out (some d) (held s ∷ ps) = some (handle_of s.sample.body)

-- ---- adding

-- refusal 1: "kind not 1 or 2, sequence number out of range"
unfoldable pub well_formed : Arrival → Bool
well_formed a = formed a.kind a.seq

abbrev pub body_in : Arrival → Body
body_in a = body_for a.kind a.handle

abbrev pub state_in : Arrival → InstanceState
state_in a = made_by (body_in a)

abbrev pub is_new : Option Instance → Bool
is_new none = true
is_new (some i) = false

abbrev pub unkept : Option ℕ → Bool
unkept none = true
unkept (some d) = false

abbrev pub no_key : Issued → Bool
no_key (Some k) = false
no_key None = true

abbrev pub key_in : Issued → ℕ
key_in (Some k) = k
key_in None = 0

abbrev pub or_fresh : Option ℕ → ℕ → InstanceState → Option Instance → Instance
or_fresh k n s none = record { name = n; meta = new_instance s; places = window k }
or_fresh k n s (some i) = i

-- the instance as the add finds it: "A new instance takes the state of its first sample"
unfoldable pub old_of : Model → Arrival → Instance
old_of m a = or_fresh m.keep a.name (state_in a) (find a.name m.instances)

abbrev pub issue_of : Model → Arrival → Issued
issue_of m a = key_of m.last a.time

-- "for an add: 6, 4 or 7, 5", after 1; 0 where the add is accepted
unfoldable pub refusal_of : Model → Arrival → ℕ
refusal_of m a =
    cond (not (well_formed a)) 1
    (cond (no_key (issue_of m a)) 6
    (cond (is_new (find a.name m.instances) && leb m.room (length m.instances)) 4
    (cond (is_last (old_of m a).meta (state_in a)) 7
    (cond (unkept m.keep && leb 256 (length (lives m.instances))) 5 0))))

-- the instance after the add, with p in its newest place
unfoldable pub arrived : Option ℕ → Instance → Arrival → Place → Instance
arrived k i a p = record { name = a.name; meta = becomes i.meta (state_in a); places = push k i.places p }

-- "Room is made first": the instances once the add has pushed out what it pushes out
unfoldable pub roomy : Model → Arrival → List Instance
roomy m a = put (arrived m.keep (old_of m a) a gone) m.instances

-- ".. then the lowest free slot is used.": the slot of an add, by the samples held before it and those held once room is made
abbrev pub slot_for : List Live → List Live → ℕ
slot_for before roomy = lowest_from 256 0 roomy

unfoldable pub slot_of : Model → Arrival → ℕ
slot_of m a = slot_for (lives m.instances) (lives (roomy m a))

-- "Each sample keeps the counts as they stood after its own step."
abbrev pub live_of : Arrival → InstanceMetaData → ℕ → ℕ → Live
live_of a i key slot = record { key = key; slot = slot; sample = unread (counts_of i) a.writer a.seq (body_in a) }

unfoldable pub accept : Model → Arrival → Step
accept m a =
    let i : Instance = old_of m a in
    let key : ℕ = key_in (issue_of m a) in
    record {
      answer = added key (slot_of m a) (pushed_out m.keep i.places);
      then = record { keep = m.keep; room = m.room; last = Some key; instances = put (arrived m.keep i a (held (live_of a (becomes i.meta (state_in a)) key (slot_of m a)))) m.instances };
    }

unfoldable pub adding : Model → Arrival → Step
adding m a = let done : Step = accept m a in cond (eqb (refusal_of m a) 0) done (refuse m (refusal_of m a))

-- ---- the no-writers event: "It makes no sample."

abbrev pub left : Instance → Instance
left i = record { name = i.name; meta = no_writers_of i.meta; places = i.places }

abbrev pub dying : Model → Option Instance → Step
dying m none = refuse m 3
dying m (some i) = record { answer = ok; then = record { keep = m.keep; room = m.room; last = m.last; instances = put (left i) m.instances } }

-- ---- choosing: "Choosing changes nothing."

abbrev pub view_in : Instance → Live → ViewState
view_in i s = view_of (accessed_of i.meta) (total_of s.sample)

abbrev pub chosen : ReadCondition → Instance → Live → Bool
chosen c i s = chosen_by c (sample_state_of s.sample) (view_in i s) (state_of i.meta)

abbrev pub hit_of : Instance → Live → Hit
hit_of i s = record { seq = s.sample.sequence_number; pair = record { key = s.key; name = i.name } }

unfoldable pub hits_in : ReadCondition → Instance → List Live → List Hit
hits_in c i [] = []
hits_in c i (s ∷ ss) = let r : List Hit = hits_in c i ss in cond (chosen c i s) (hit_of i s ∷ r) r

unfoldable pub hits : ReadCondition → List Instance → List Hit
hits c [] = []
hits c (i ∷ is) = hits_in c i (live_in i.places) ++ hits c is

-- over all instances, or over the one named: "Choosing within an unknown instance gives an empty answer."
abbrev pub one : Option Instance → List Instance
one none = []
one (some i) = i ∷ []

abbrev pub scope : Option ℕ → List Instance → List Instance
scope none is = is
scope (some n) is = one (find n is)

abbrev pub choices : ReadCondition → List Instance → List Pair
choices c is = pairs_in (sorted (hits c is))

-- refusal 9: "lent result buffer too short for the whole answer"
unfoldable pub choosing : ReadCondition → ℕ → List Instance → Answer
choosing c room is =
    let chosen : List Pair = choices c is in
    cond (is_valid c) (cond (leb (length chosen) room) (selected chosen) (refused 9)) (refused 1)

-- ---- reading and taking

unfoldable pub keyed : ℕ → List Live → Option Live
keyed k [] = none
keyed k (s ∷ ss) = let r : Option Live = keyed k ss in cond (eqb s.key k) (some s) r

-- the live sample that a pair names
abbrev pub named : Pair → Option Instance → Option Live
named p none = none
named p (some i) = keyed p.key (live_in i.places)

abbrev pub present : Option Live → Bool
present none = false
present (some s) = true

abbrev pub is_live : Model → Pair → Bool
is_live m p = present (named p (find p.name m.instances))

-- not refusal 8: no pair of the list is bad
abbrev pub fine : Model → List Pair → Bool
fine m ps = none_bad (first_bad (is_live m) ps)

-- "the latest-keyed live sample of the whole cache"
abbrev pub later : Option Live → Live → Option Live
later none s = some s
later (some t) s = some (cond (ltb s.key t.key) t s)

unfoldable pub latest : List Live → Option Live
latest [] = none
latest (s ∷ ss) = later (latest ss) s

abbrev pub latest_total : Option Live → ℕ
latest_total none = 0
latest_total (some s) = total_of s.sample

-- "the latest total of the last pair's instance"
abbrev pub instance_total : Option Instance → ℕ
instance_total none = 0
instance_total (some i) = total (counts_of i.meta)

unfoldable pub last_total : Model → List Pair → ℕ
last_total m [] = 0
last_total m (p ∷ []) = instance_total (find p.name m.instances)
last_total m (p ∷ q ∷ qs) = last_total m (q ∷ qs)

-- by which rules the ranks of a list are counted; edition 1 is the Rust's, which document 01 follows
pub data Edition : Type 0 where
  by_the_rust : Edition

-- the ranks of a place of the list `whole`: `behind` are the pairs after it, i and s the instance and the sample that its pair names
-- "For place p of m: sample_rank is m-1-p; generation_rank is the latest total of the last pair's instance minus the sample's total;
-- absolute_generation_rank is the total of the latest-keyed live sample of the whole cache minus the sample's. Both may be negative"
unfoldable pub ranks_at : Edition → Model → List Pair → List Pair → Instance → Live → Ranks
ranks_at by_the_rust m whole behind i s = record {
  sample_rank = length behind;
  generation_rank = rank_from (last_total m whole) (total_of s.sample);
  absolute_generation_rank = rank_from (latest_total (latest (lives m.instances))) (total_of s.sample);
}

-- an info, "with everything as before the call"
abbrev pub info_of : Ranks → Instance → Live → Info
info_of r i s = record {
  body = s.sample.body;
  sample_state = sample_state_of s.sample;
  view_state = view_in i s;
  instance_state = state_of i.meta;
  generation_counts = s.sample.generation_counts;
  sample_rank = r.sample_rank;
  generation_rank = r.generation_rank;
  absolute_generation_rank = r.absolute_generation_rank;
  publication_handle = s.sample.writer_guid;
  sequence_number = s.sample.sequence_number;
}

abbrev pub info_at : (Instance → Live → Ranks) → Option Instance → Option Live → List Info
info_at ranks none s = []
info_at ranks (some i) none = []
info_at ranks (some i) (some s) = info_of (ranks i s) i s ∷ []

-- the infos of the pairs that are left of the list `whole`, place by place
unfoldable pub infos_of : Edition → Model → List Pair → List Pair → List Info
infos_of e m whole [] = []
infos_of e m whole (p ∷ ps) = info_at (ranks_at e m whole ps) (find p.name m.instances) (named p (find p.name m.instances)) ++ infos_of e m whole ps

abbrev pub infos_for : Model → List Pair → List Info
infos_for m ps = infos_of by_the_rust m ps ps

-- "Read marks samples Read; take removes them."
abbrev pub as_read : Live → Live
as_read s = record { key = s.key; slot = s.slot; sample = marked_read s.sample }

abbrev pub mark : Bool → Live → Place
mark true s = gone
mark false s = held (as_read s)

abbrev pub listed_in : ℕ → List Pair → Live → Bool
listed_in n ps s = among (record { key = s.key; name = n }) ps

abbrev pub touch : Bool → ℕ → List Pair → Place → Place
touch t n ps gone = gone
touch t n ps (held s) = cond (listed_in n ps s) (mark t s) (held s)

-- the greatest total that the list showed for instance n
unfoldable pub shown : ℕ → List Pair → List Live → Option ℕ
shown n ps [] = none
shown n ps (s ∷ ss) = let r : Option ℕ = shown n ps ss in cond (listed_in n ps s) (greater r (total_of s.sample)) r

-- "Afterwards each instance in the list gets as last accessed the greatest total that this list showed for it"
abbrev pub accessed : ℕ → List Pair → List Live → InstanceMetaData → InstanceMetaData
accessed n ps ss i = meta (state_of i) (counts_of i) (viewed (accessed_of i) (shown n ps ss))

abbrev pub listed : Bool → List Pair → Instance → Instance
listed t ps i = record { name = i.name; meta = accessed i.name ps (live_in i.places) i.meta; places = map (touch t i.name ps) i.places }

unfoldable pub access : Bool → Model → List Pair → Step
access t m ps = record {
  answer = infos (infos_for m ps);
  then = record { keep = m.keep; room = m.room; last = m.last; instances = map (listed t ps) m.instances };
}

-- "Lists: 8, 9."
unfoldable pub accessing : Bool → Model → List Pair → ℕ → Step
unfolding bad_from
accessing t m ps room =
    let done : Step = access t m ps in
    cond (fine m ps) (cond (leb (length ps) room) done (refuse m 9)) (refuse m 8)

-- ---- a call, and calls in a row

unfoldable pub step : Model → Call → Step
step m (set_up u) = setting_up m u
step m (add a) = adding m a
step m (no_writers n) = dying m (find n m.instances)
step m (choose w c room) = reply m (choosing c room (scope w m.instances))
step m (read_or_take t ps room) = accessing t m ps room
step m (next_key n) = reply m (next (next_name n m.instances))

unfoldable pub answers : Model → List Call → List Answer
answers m [] = []
answers m (c ∷ cs) = let s : Step = step m c in s.answer ∷ answers s.then cs
