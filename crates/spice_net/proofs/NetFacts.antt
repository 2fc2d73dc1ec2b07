-- Names without repeats, one after the other.
use Rattle.std.proofs.Common.{ℕ, ◌≡◌, ◌≢◌, ◌+◌, ◌*◌, ◌<◌, ◌≤◌, not, Bool, true, false, cond, List, [], ◌∷◌, ◌++◌, length, get_or, filter, take, refl, sym, subst, ap, ◌∙◌, inl, inr, append_assoc, length-append, arith, Bor}
use Rattle.std.specs.Prelude.{AllPairs, bytes_eq, position, Some, None, if◌then◌else◌}
use Rattle.std.specs.List.{list_any, position_or_len}
use Rattle.std.proofs.lemmas.Bool.{cases_Bool}
use Rattle.std.proofs.lemmas.List.{map-append, append-nil}
use Rattle.std.proofs.lemmas.List.Elements.{filter-append, filter_passes}
use Rattle.std.proofs.lemmas.List.Filters.{length-filter_both}
use Rattle.std.proofs.lemmas.List.Recursion.{is_position_or_len}
use Rattle.std.proofs.lemmas.List.Sums.{prefix_len-le-length}
use Rattle.std.proofs.lemmas.List.Kept.{AllPairs-filter, AllPairs-cons}
use Rattle.std.proofs.lemmas.Map.Views.{any-filter_same}
use Rattle.std.proofs.lemmas.Slice.Eq.{bytes_eq-Decides}
use Rattle.std.proofs.lemmas.Grind.{flat_map-append}
use Rattle.std.proofs.lemmas.List.Sums.{fold-append}
use Rattle.spice_net.proofs.Last.{next_taken}
use Rattle.spice_net.specs.Transistors.{Transistor}
use Rattle.spice_net.proofs.Places.{found, missing}
use Rattle.spice_net.specs.Nets.{distinct, number_of, named_nets, nets_of}
use Rattle.spice_net.specs.Reader.{names_of, with_name, with_names}

-- ---- the keys of a set

pub any_names : (w : List ℕ) (ks : List (Bor (List ℕ))) → list_any (λ k. bytes_eq w k.now) ks ≡ list_any (bytes_eq w) (names_of ks)
any_names w [] = refl
any_names w (k ∷ ks) = rw (any_names w ks) refl

turned : (p : Bool) (n : ℕ) → cond (not p) (1 + n) 0 ≡ cond p 0 (1 + n)
turned true n = refl
turned false n = refl

pub place_names : (w : List ℕ) (ks : List (Bor (List ℕ))) → position_or_len (λ k. bytes_eq w k.now) ks ≡ position_or_len (bytes_eq w) (names_of ks)
place_names w ks = sym (is_position_or_len (λ (xs : List (Bor (List ℕ))). position_or_len (bytes_eq w) (names_of xs)) (λ k. bytes_eq w k.now) refl (λ x xs. turned (bytes_eq w x.now) (position_or_len (bytes_eq w) (names_of xs))) ks)

pub insert_names : (w : Bor (List ℕ)) (ks new : List (Bor (List ℕ))) → new ≡ (if list_any (λ k. bytes_eq w.now k.now) ks then ks else ks ++ w ∷ []) → names_of new ≡ with_name (names_of ks) w.now
insert_names w ks new e = elim (cases_Bool (list_any (λ k. bytes_eq w.now k.now) ks)) [
  | inl there ↦ let h : list_any (bytes_eq w.now) (names_of ks) ≡ true = sym (any_names w.now ks) ∙ there in rw (e, there, h) refl
  | inr new_one ↦ let h : list_any (bytes_eq w.now) (names_of ks) ≡ false = sym (any_names w.now ks) ∙ new_one in rw (e, new_one, h) (map-append (λ k. k.now) ks (w ∷ []))
]

pub placed : (name : List ℕ) (ks : List (Bor (List ℕ))) (at : ℕ) → position (λ k. bytes_eq name k.now) ks ≡ Some at → at ≡ number_of (names_of ks) name
placed name ks at e = sym (found (λ (k : Bor (List ℕ)). bytes_eq name k.now) ks at e).1 ∙ place_names name ks

pub not_placed : (name : List ℕ) (ks : List (Bor (List ℕ))) → position (λ k. bytes_eq name k.now) ks ≡ None → length ks ≡ number_of (names_of ks) name
not_placed name ks e =
    let here : position_or_len (λ (k : Bor (List ℕ)). bytes_eq name k.now) ks ≡ length ks = omega (arith, missing (λ (k : Bor (List ℕ)). bytes_eq name k.now) ks e, prefix_len-le-length (λ (k : Bor (List ℕ)). not (bytes_eq name k.now)) ks) in
    sym here ∙ place_names name ks

-- ---- one more name

same_names : (a b : List ℕ) → bytes_eq a b ≡ true → a ≡ b
same_names a b e = (bytes_eq-Decides a b).0 e

pub one_name : (a : List ℕ) → bytes_eq a a ≡ true
one_name a = (bytes_eq-Decides a a).1 refl

turned_names : (a b : List ℕ) → bytes_eq a b ≡ bytes_eq b a
turned_names a b = elim (cases_Bool (bytes_eq a b)) [
  | inl same ↦ rw (same_names a b same) refl
  | inr differ ↦ elim (cases_Bool (bytes_eq b a)) [
    | inl same ↦ rw (same_names b a same) refl
    | inr other ↦ rw (differ, other) refl
  ]
]

-- a name that is among names is among those other than another
pub any_others : (word name : List ℕ) (names : List (List ℕ)) → bytes_eq word name ≡ false → list_any (bytes_eq word) (filter (λ other. not (bytes_eq other name)) names) ≡ list_any (bytes_eq word) names
any_others word name names differ = any-filter_same (bytes_eq word) (λ other. not (bytes_eq other name)) true kept names
  where
    kept : (k : List ℕ) → bytes_eq word k ≡ true → not (bytes_eq k name) ≡ true
    kept k same = rw (← same_names word k same) (rw differ refl)

-- a word that is the first name
again : (name : List ℕ) (names : List (List ℕ)) (word : List ℕ) → bytes_eq word name ≡ true → name ∷ filter (λ other. not (bytes_eq other name)) (with_name (distinct names) word) ≡ with_name (name ∷ filter (λ other. not (bytes_eq other name)) (distinct names)) word
again name names word same = rw same (ap (λ (ns : List (List ℕ)). name ∷ ns) (elim (cases_Bool (list_any (bytes_eq word) (distinct names))) [
  | inl there ↦ rw there refl
  | inr new ↦ rw new (filter-append (λ (other : List ℕ). not (bytes_eq other name)) (distinct names) (word ∷ []) ∙ (rw same (append-nil (filter (λ (other : List ℕ). not (bytes_eq other name)) (distinct names)))))
]))

-- a word that is not
other : (name : List ℕ) (names : List (List ℕ)) (word : List ℕ) → bytes_eq word name ≡ false → name ∷ filter (λ other. not (bytes_eq other name)) (with_name (distinct names) word) ≡ with_name (name ∷ filter (λ other. not (bytes_eq other name)) (distinct names)) word
other name names word differ = rw (differ, any_others word name (distinct names) differ) (elim (cases_Bool (list_any (bytes_eq word) (distinct names))) [
  | inl there ↦ rw there refl
  | inr new ↦ rw new (ap (λ (ns : List (List ℕ)). name ∷ ns) (filter-append (λ (other : List ℕ). not (bytes_eq other name)) (distinct names) (word ∷ []) ∙ (rw differ refl)))
])

pub distinct_more : (words : List (List ℕ)) (word : List ℕ) → distinct (words ++ word ∷ []) ≡ with_name (distinct words) word
distinct_more [] word = refl
distinct_more (name ∷ names) word = elim (cases_Bool (bytes_eq word name)) [
  | inl same ↦ rw (distinct_more names word) (again name names word same)
  | inr differ ↦ rw (distinct_more names word) (other name names word differ)
]

-- ---- names that come one after the other

pub starts_distinct : distinct [] ≡ []
starts_distinct = refl

pub one_name_more : (names : List (List ℕ)) (i : ℕ) (name : List ℕ) → i < length names → name ≡ get_or names i name → with_name (distinct (take i names)) name ≡ distinct (take (i + 1) names)
one_name_more names i name lt is = sym (distinct_more (take i names) name) ∙ ap (λ (ns : List (List ℕ)). distinct ns) (sym (next_taken names i name lt is))

pub more_names : (names : List (List ℕ)) (ts : List Transistor) (i : ℕ) (t : Transistor) → i < length ts → t ≡ get_or ts i t → with_names (with_names names (named_nets (take i ts))) (named_nets (t ∷ [])) ≡ with_names names (named_nets (take (i + 1) ts))
more_names names ts i t lt is =
    rw (next_taken ts i t lt is, flat_map-append (λ (t : Transistor). t.drain ∷ t.gate ∷ t.source ∷ []) (take i ts) (t ∷ []), fold-append with_name names (named_nets (take i ts)) (t.drain ∷ t.gate ∷ t.source ∷ [])) refl

-- names without repeats, and more behind them
pub distinct_behind : (names words : List (List ℕ)) → with_names (distinct names) words ≡ distinct (names ++ words)
distinct_behind names [] = ap (λ (ns : List (List ℕ)). distinct ns) (sym (append-nil names))
distinct_behind names (word ∷ words) =
    ap (λ (ns : List (List ℕ)). with_names ns words) (sym (distinct_more names word)) ∙ (distinct_behind (names ++ word ∷ []) words ∙ ap (λ (ns : List (List ℕ)). distinct ns) (append_assoc names (word ∷ []) words))

pub nets_behind : (pins : List (List ℕ)) (ts : List Transistor) → distinct pins ≡ pins → with_names pins (named_nets ts) ≡ nets_of pins ts
nets_behind pins ts e = ap (λ (ns : List (List ℕ)). with_names ns (named_nets ts)) (sym e) ∙ distinct_behind pins (named_nets ts)

-- ---- what is without repeats

pub length_distinct : (words : List (List ℕ)) → length (distinct words) ≤ length words
length_distinct [] = omega arith
length_distinct (word ∷ words) = omega (arith, length_distinct words, shorter (λ (other : List ℕ). not (bytes_eq other word)) (distinct words))
  where
    shorter : (p : List ℕ → Bool) (xs : List (List ℕ)) → length (filter p xs) ≤ length xs
    shorter p xs = omega (arith, length-filter_both p (λ x. not (p x)) (λ _. refl) xs)

length_named : (ts : List Transistor) → length (named_nets ts) ≡ 3 * length ts
length_named [] = refl
length_named (t ∷ ts) = omega (arith, length_named ts)

pub length_nets : (pins : List (List ℕ)) (ts : List Transistor) → length (nets_of pins ts) ≤ length pins + 3 * length ts
length_nets pins ts = omega (arith, length_distinct (pins ++ named_nets ts), length-append pins (named_nets ts), length_named ts)

all_differ : (words : List (List ℕ)) → AllPairs (λ (a b : List ℕ). a ≢ b) (distinct words)
all_differ [] = λ i j d lt within. absurd (omega (arith, within))
all_differ (word ∷ words) =
    AllPairs-cons (λ (a b : List ℕ). a ≢ b) word (filter (λ other. not (bytes_eq other word)) (distinct words))
    (λ k d lt same. differs (get_or (filter (λ other. not (bytes_eq other word)) (distinct words)) k d) (filter_passes (λ other. not (bytes_eq other word)) (distinct words) k d lt) same)
    (AllPairs-filter (λ (a b : List ℕ). a ≢ b) (λ other. not (bytes_eq other word)) (distinct words) (all_differ words))
  where
    differs : (other : List ℕ) → not (bytes_eq other word) ≡ true → word ≡ other → ⊥
    differs other passes same = absurd (both (bytes_eq other word) (ap (λ (w : List ℕ). bytes_eq w word) (sym same) ∙ one_name word) passes)
      where
        both : (b : Bool) → b ≡ true → not b ≡ true → ⊥
        both true e f = absurd cc
        both false e f = absurd cc

pub nets_differ : (pins : List (List ℕ)) (ts : List Transistor) (nets : List (List ℕ)) → nets ≡ nets_of pins ts → AllPairs (λ (a b : List ℕ). a ≢ b) nets
nets_differ pins ts nets e = subst (λ (ns : List (List ℕ)). AllPairs (λ (a b : List ℕ). a ≢ b) ns) (sym e) (all_differ (pins ++ named_nets ts))
