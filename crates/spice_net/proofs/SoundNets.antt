-- Names of nets, and their numbers.
use Rattle.std.proofs.Common.{ℕ, ◌≡◌, ◌≢◌, ◌+◌, ◌<◌, ◌≤◌, ◌||◌, not, Bool, true, false, List, [], ◌∷◌, ◌++◌, length, get_or, filter, refl, sym, ap, ◌∙◌, inl, inr, append_assoc, length-append, arith}
use Rattle.std.specs.Prelude.{AllPairs, bytes_eq}
use Rattle.std.specs.List.{list_any}
use Rattle.std.proofs.lemmas.Bool.{cases_Bool, false_from_ne_true}
use Rattle.std.proofs.lemmas.List.{append-nil}
use Rattle.std.proofs.lemmas.List.Folds.{list_any_at}
use Rattle.std.proofs.lemmas.List.Sums.{passes_at_first, position_or_len_is}
use Rattle.std.proofs.lemmas.Slice.Eq.{bytes_eq-Decides}
use Rattle.spice_net.specs.Chosen.{has_name}
use Rattle.spice_net.specs.Nets.{distinct, number_of}
use Rattle.spice_net.specs.Reader.{with_name}
use Rattle.spice_net.proofs.NetFacts.{one_name, any_others, distinct_more}

-- ---- the names among those without repeats

pub has_distinct : (word : List ℕ) (names : List (List ℕ)) → has_name (distinct names) word ≡ has_name names word
has_distinct word [] = refl
has_distinct word (name ∷ names) = elim (cases_Bool (bytes_eq word name)) [
  | inl same ↦ rw same refl
  | inr differ ↦ rw (differ, any_others word name (distinct names) differ) (has_distinct word names)
]

-- a name that stands at a place
pub has_itself : (names : List (List ℕ)) (n : ℕ) → n < length names → has_name names (get_or names n []) ≡ true
has_itself names n lt = list_any_at (bytes_eq (get_or names n [])) names n [] lt (one_name (get_or names n []))

-- ---- numbers

behind : (word name : List ℕ) (names : List (List ℕ)) → bytes_eq word name ≡ false → has_name (name ∷ names) word ≡ true → has_name names word ≡ true
behind word name names differ e = sym (ap (λ (b : Bool). b || has_name names word) differ) ∙ e

first_number : (word name : List ℕ) (names : List (List ℕ)) → bytes_eq word name ≡ true → number_of (name ∷ names) word ≡ 0
first_number word name names same = rw same refl

later_number : (word name : List ℕ) (names : List (List ℕ)) → bytes_eq word name ≡ false → number_of (name ∷ names) word ≡ 1 + number_of names word
later_number word name names differ = rw differ refl

-- a name among nets has a number
pub numbered : (word : List ℕ) (names : List (List ℕ)) → has_name names word ≡ true → number_of names word < length names
numbered word [] e = absurd cc
numbered word (name ∷ names) e = elim (cases_Bool (bytes_eq word name)) [
  | inl same ↦ omega (arith, first_number word name names same)
  | inr differ ↦ omega (arith, later_number word name names differ, numbered word names (behind word name names differ e))
]

-- the number of a name is a place where it stands
at_number : (word : List ℕ) (names : List (List ℕ)) → has_name names word ≡ true → word ≡ get_or names (number_of names word) []
at_number word names e = (bytes_eq-Decides word (get_or names (number_of names word) [])).0 (passes_at_first (bytes_eq word) names [] (numbered word names e))

-- so a name is told by its number
pub same_numbered : (a b : List ℕ) (names : List (List ℕ)) → has_name names a ≡ true → has_name names b ≡ true → number_of names a ≡ number_of names b → a ≡ b
same_numbered a b names has_a has_b same = at_number a names has_a ∙ (ap (λ (n : ℕ). get_or names n []) same ∙ sym (at_number b names has_b))

-- where no name stands twice, the number of the name at a place is that place
pub number_at : (names : List (List ℕ)) (n : ℕ) → AllPairs (λ (a b : List ℕ). a ≢ b) names → n < length names → number_of names (get_or names n []) ≡ n
number_at names n differ lt =
    let le : n ≤ length names = omega (arith, lt) in
    position_or_len_is (bytes_eq (get_or names n [])) names n [] le (λ k before. not_same k before) (λ _. one_name (get_or names n []))
  where
    not_same : (k : ℕ) → k < n → bytes_eq (get_or names n []) (get_or names k []) ≡ false
    not_same k before = false_from_ne_true (bytes_eq (get_or names n []) (get_or names k [])) (λ e. differ k n [] before lt (sym ((bytes_eq-Decides (get_or names n []) (get_or names k [])).0 e)))

-- ---- the first of the names

-- without another name, a name's number rises no more
number_without : (word other : List ℕ) (names : List (List ℕ)) → bytes_eq word other ≡ false → number_of (filter (λ name. not (bytes_eq name other)) names) word ≤ number_of names word
number_without word other [] differ = omega arith
number_without word other (name ∷ names) differ = elim (cases_Bool (bytes_eq word name)) [
  | inl same ↦ rw (kept same) (omega (arith, first_number word name (filter (λ name. not (bytes_eq name other)) names) same))
  | inr later ↦ elim (cases_Bool (bytes_eq name other)) [
    | inl dropped ↦ rw dropped (omega (arith, later_number word name names later, number_without word other names differ))
    | inr stays ↦ rw stays (omega (arith, later_number word name names later, later_number word name (filter (λ name. not (bytes_eq name other)) names) later, number_without word other names differ))
  ]
]
  where
    kept : bytes_eq word name ≡ true → bytes_eq name other ≡ false
    kept same = ap (λ (x : List ℕ). bytes_eq x other) (sym ((bytes_eq-Decides word name).0 same)) ∙ differ

-- the numbers of the first names are below their count
pub first_numbered : (word : List ℕ) (names more : List (List ℕ)) → has_name names word ≡ true → number_of (distinct (names ++ more)) word < length names
first_numbered word [] more e = absurd cc
first_numbered word (name ∷ names) more e = elim (cases_Bool (bytes_eq word name)) [
  | inl same ↦ omega (arith, first_number word name (filter (λ other. not (bytes_eq other name)) (distinct (names ++ more))) same)
  | inr differ ↦ omega (arith, later_number word name (filter (λ other. not (bytes_eq other name)) (distinct (names ++ more))) differ, number_without word name (distinct (names ++ more)) differ, first_numbered word names more (behind word name names differ e))
]

-- ---- how many names

with_length : (names : List (List ℕ)) (word : List ℕ) → length names ≤ length (with_name names word)
with_length names word = elim (cases_Bool (list_any (bytes_eq word) names)) [
  | inl there ↦ rw there (omega arith)
  | inr new ↦ rw new (omega (arith, length-append names (word ∷ [])))
]

pub distinct_longer : (names more : List (List ℕ)) → length (distinct names) ≤ length (distinct (names ++ more))
distinct_longer names [] = rw (append-nil names) (omega arith)
distinct_longer names (word ∷ more) =
    let shape : (names ++ word ∷ []) ++ more ≡ names ++ word ∷ more = append_assoc names (word ∷ []) more in
    omega (arith, with_length (distinct names) word, ap (λ (ns : List (List ℕ)). length ns) (distinct_more names word), distinct_longer (names ++ word ∷ []) more, ap (λ (ns : List (List ℕ)). length (distinct ns)) shape)

-- names none of which stands twice, and another name behind them
pub distinct_push : (names : List (List ℕ)) (word : List ℕ) → length names ≤ length (distinct names) → has_name names word ≡ false → length (names ++ word ∷ []) ≤ length (distinct (names ++ word ∷ []))
distinct_push names word all new =
    let apart : list_any (bytes_eq word) (distinct names) ≡ false = has_distinct word names ∙ new in
    let pushed : with_name (distinct names) word ≡ distinct names ++ word ∷ [] = rw apart refl in
    omega (arith, all, ap (λ (ns : List (List ℕ)). length ns) (distinct_more names word), ap (λ (ns : List (List ℕ)). length ns) pushed, length-append (distinct names) (word ∷ []), length-append names (word ∷ []))
