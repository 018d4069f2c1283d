-- The standard library's maps and sets as far as the Rust uses them, over lists; and a value for "panics".
use Rattle.std.specs.Prelude.{ℕ, cond, List, [], ◌∷◌, ◌==◌, nat_lt}
use Rattle.std.proofs.Math.Option.{Option, some, none}

-- ---- what a call comes to: it panics, or it gives a value

pub data Outcome (A : Type 0) : Type 0 where
  panics : Outcome A
  gives : A → Outcome A

-- `x` first; what follows runs unless it panicked
abbrev pub try : {A B : Type 0} → Outcome A → (A → Outcome B) → Outcome B
try panics f = panics
try (gives a) f = f a

abbrev pub unwrap : {A : Type 0} → Option A → Outcome A
unwrap none = panics
unwrap (some a) = gives a

-- ---- BTreeMap<u64, A>: its entries in order of their keys

pub record Entry (A : Type 0) : Type 0 where
  pub at : ℕ
  pub item : A

abbrev pub entry : {A : Type 0} → ℕ → A → Entry A
entry k a = record { at = k; item = a }

unfoldable pub get : {A : Type 0} → ℕ → List (Entry A) → Option A
get k [] = none
get k (e ∷ m) = cond (e.at == k) (some e.item) (get k m)

-- before the first greater key, or in the place of the same key
unfoldable pub insert : {A : Type 0} → ℕ → A → List (Entry A) → List (Entry A)
insert k a [] = entry k a ∷ []
insert k a (e ∷ m) = cond (nat_lt k e.at) (entry k a ∷ e ∷ m) (cond (e.at == k) (entry k a ∷ m) (e ∷ insert k a m))

unfoldable pub remove : {A : Type 0} → ℕ → List (Entry A) → List (Entry A)
remove k [] = []
remove k (e ∷ m) = cond (e.at == k) (remove k m) (e ∷ remove k m)

-- `if let Some(a) = m.get_mut(k)`, and what is then assigned
unfoldable pub modify : {A : Type 0} → ℕ → (A → A) → List (Entry A) → List (Entry A)
modify k f [] = []
modify k f (e ∷ m) = cond (e.at == k) (entry e.at (f e.item)) e ∷ modify k f m

abbrev pub or_last : {A : Type 0} → Entry A → Option (Entry A) → Option (Entry A)
or_last e none = some e
or_last e (some f) = some f

-- `last_key_value()`, `iter().next_back()`
unfoldable pub last_entry : {A : Type 0} → List (Entry A) → Option (Entry A)
last_entry [] = none
last_entry (e ∷ m) = or_last e (last_entry m)

-- `range((Bound::Excluded(k), Bound::Unbounded)).map(|(k, _)| k.clone()).next()`
unfoldable pub first_above : {A : Type 0} → ℕ → List (Entry A) → Option ℕ
first_above k [] = none
first_above k (e ∷ m) = cond (nat_lt k e.at) (some e.at) (first_above k m)

-- ---- HashMap<u64, A>: its entries in any order; here in the order in which they came

-- `entry(k).and_modify(f).or_insert(a)`
unfoldable pub upsert : {A : Type 0} → ℕ → (A → A) → A → List (Entry A) → List (Entry A)
upsert k f a [] = entry k a ∷ []
upsert k f a (e ∷ m) = cond (e.at == k) (entry e.at (f e.item) ∷ m) (e ∷ upsert k f a m)

-- ---- BTreeSet<u64>: its elements in order

unfoldable pub insert_stamp : ℕ → List ℕ → List ℕ
insert_stamp k [] = k ∷ []
insert_stamp k (j ∷ s) = cond (nat_lt k j) (k ∷ j ∷ s) (cond (j == k) (j ∷ s) (j ∷ insert_stamp k s))

unfoldable pub remove_stamp : ℕ → List ℕ → List ℕ
remove_stamp k [] = []
remove_stamp k (j ∷ s) = cond (j == k) (remove_stamp k s) (j ∷ remove_stamp k s)
