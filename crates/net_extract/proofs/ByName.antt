-- Labels that are looked up by name.
use Rattle.std.proofs.Common.{◌≡◌, ℕ, ◌<◌, Bool, true, not, ◌&&◌, ◌==◌, List, length, get_or, Option, Some, None, Ok, Err, inl, inr, refl, sym, ap, ◌∙◌, arith, IsPermutation}
use Rattle.std.specs.Cmp.Lexicographic.{slice_cmp, nat_list_cmp_total}
use Rattle.std.specs.List.{Contains, find, AllWithin}
use Rattle.std.specs.List.Sorted.{IsBinarySearchResult, IsSortedByKey}
use Rattle.std.specs.Option.{option_map}
use Rattle.std.specs.Ordering.{nat_cmp, ordering_reverse}
use Rattle.std.specs.Str.{bytes_eq}
use Rattle.std.specs.declared.cmp.Ordering.{Ordering}
use Rattle.std.specs.declared.cmp.Ordering.TheVariants.{Less, Equal, Greater}
use Rattle.std.proofs.lemmas.Bool.{cases_eq, ne_eqb, cases_lt}
use Rattle.std.proofs.lemmas.List.Elements.{Contains-get_or}
use Rattle.std.proofs.lemmas.List.Sorted.{Contains-permutation, IsPermutation-sym, searchable_from_sorted}
use Rattle.std.proofs.lemmas.Map.Lookups.{exact_bytes}
use Rattle.std.proofs.lemmas.Slice.Eq.{bytes_eq-Decides}
use Rattle.net_extract.specs.Naming.{split_name, stands_elsewhere}
use Rattle.net_extract.specs.NetMaps.{AreByName, net_labelled}
use Rattle.net_extract.specs.declared.naming.NetLabel.{NetLabel}
use Rattle.net_extract.proofs.Filling.{and_true}
use Rattle.net_extract.proofs.Finding.{found, found_none, of_any}

-- labels of one name are of one net
abbrev pub OneNet : List NetLabel → Type 0
OneNet labels = (h k : NetLabel) → Contains labels h → Contains labels k → h.name ≡ k.name → h.net ≡ k.net

abbrev named : List ℕ → NetLabel → Bool
named name h = bytes_eq h.name name

none_found : {X Y : Type 0} (f : X → Y) (o : Option X) → option_map f o ≡ None → o ≡ None
none_found f None e = refl
none_found f (Some x) e = absurd (cc e)

pub one_net : (held : List NetLabel) → split_name held ≡ None → OneNet held
one_net held e h k ch ck same = elim (cases_eq h.net k.net) [
  | inl is ↦ is
  | inr ne ↦
      let apart : not (k.net == h.net) ≡ true = rw (ne_eqb k.net h.net (λ f. ne (sym f))) refl in
      let there : stands_elsewhere held h ≡ true = of_any (λ (z : NetLabel). not (z.net == h.net) && bytes_eq z.name h.name) held k ck (and_true (not (k.net == h.net)) (bytes_eq k.name h.name) apart ((bytes_eq-Decides k.name h.name).1 (sym same))) in
      absurd (found_none (stands_elsewhere held) held (none_found (λ (z : NetLabel). z.name) (find (stands_elsewhere held) held) e) h ch there)
]

pub label_found : (labels : List NetLabel) → OneNet labels → (name : List ℕ) (h : NetLabel) → Contains labels h → h.name ≡ name → net_labelled labels name ≡ Some h.net
label_found labels one name h c is = by (find (named name) labels) refl
  where
    by : (o : Option NetLabel) → find (named name) labels ≡ o → option_map (λ (z : NetLabel). z.net) o ≡ Some h.net
    by None e = absurd (found_none (named name) labels e h c ((bytes_eq-Decides h.name name).1 is))
    by (Some w) e =
        let p = found (named name) labels w e in
        ap (λ n. Some n) (one w h p.listed c ((bytes_eq-Decides w.name name).0 p.passes ∙ sym is))

pub label_none : (labels : List NetLabel) (name : List ℕ) → ((h : NetLabel) → Contains labels h → h.name ≡ name → ⊥) → net_labelled labels name ≡ None
label_none labels name never = by (find (named name) labels) refl
  where
    by : (o : Option NetLabel) → find (named name) labels ≡ o → option_map (λ (z : NetLabel). z.net) o ≡ None
    by None e = refl
    by (Some w) e = let p = found (named name) labels w e in absurd (never w p.listed ((bytes_eq-Decides w.name name).0 p.passes))

-- the order of the labels plays no part
pub labels_moved : (held labels : List NetLabel) → OneNet held → IsPermutation held labels → (name : List ℕ) → net_labelled labels name ≡ net_labelled held name
labels_moved held labels one moved name = by (find (named name) labels) refl
  where
    by : (o : Option NetLabel) → find (named name) labels ≡ o → option_map (λ (z : NetLabel). z.net) o ≡ net_labelled held name
    by None e = sym (label_none held name (λ h c is. found_none (named name) labels e h (Contains-permutation held labels h moved c) ((bytes_eq-Decides h.name name).1 is)))
    by (Some w) e =
        let p = found (named name) labels w e in
        sym (label_found held one name w (Contains-permutation labels held w (IsPermutation-sym held labels moved) p.listed) ((bytes_eq-Decides w.name name).0 p.passes))

pub are_by_name : (held labels : List NetLabel) → split_name held ≡ None → IsPermutation held labels → IsSortedByKey (λ (h : NetLabel). h.name) (slice_cmp nat_cmp) labels → AreByName labels
are_by_name held labels agreed moved sorted = record {
  sorted = sorted;
  one = λ h k ch ck. one_net held agreed h k (Contains-permutation labels held h (IsPermutation-sym held labels moved) ch) (Contains-permutation labels held k (IsPermutation-sym held labels moved) ck);
}

abbrev order : List ℕ → NetLabel → Ordering
order name h = slice_cmp nat_cmp h.name name

-- what a search by name finds
pub found_at : (labels : List NetLabel) → AreByName labels → (name : List ℕ) (at : ℕ) → at < length labels → IsBinarySearchResult (order name) labels (Ok at) → (d : NetLabel) → net_labelled labels name ≡ Some (get_or labels at d).net
found_at labels up name at within equal d = label_found labels up.one name (get_or labels at d) (Contains-get_or labels at d within) (exact_bytes (get_or labels at d).name name (equal d))

same_order : (xs : List ℕ) → slice_cmp nat_cmp xs xs ≡ Equal
same_order xs = by (slice_cmp nat_cmp xs xs) (nat_list_cmp_total.antisymm xs xs)
  where
    by : (r : Ordering) → r ≡ ordering_reverse r → r ≡ Equal
    by Less e = absurd (cc e)
    by Equal e = refl
    by Greater e = absurd (cc e)

pub not_found : (labels : List NetLabel) → AreByName labels → (name : List ℕ) (at : ℕ) → IsBinarySearchResult (order name) labels (Err at) → net_labelled labels name ≡ None
not_found labels up name at parted = label_none labels name (λ h c is.
    let parts = parted (searchable_from_sorted nat_list_cmp_total (λ (k : NetLabel). k.name) labels name up.sorted) in
    let equal : order name h ≡ Equal = ap (λ ns. slice_cmp nat_cmp ns name) is ∙ same_order name in
    at_place h c equal parts)
  where
    at_place : (h : NetLabel) → Contains labels h → order name h ≡ Equal → AllWithin (λ k. order name k ≡ Less) labels 0 at × AllWithin (λ k. order name k ≡ Greater) labels at (length labels) → ⊥
    at_place h (i, within, is) equal parts =
        let there : order name (get_or labels i h) ≡ Equal = ap (order name) is ∙ equal in
        elim (cases_lt i at) [
          | inl less ↦ let l : order name (get_or labels i h) ≡ Less = parts.0 i h (omega arith) less in let f : Less ≡ Equal = sym l ∙ there in absurd (cc f)
          | inr more ↦ let g : order name (get_or labels i h) ≡ Greater = parts.1 i h more within in let f : Greater ≡ Equal = sym g ∙ there in absurd (cc f)
        ]
