-- The version that a first line names.
use Rattle.std.specs.Prelude.{ℕ, ◌≡◌, ◌≢◌, ◌<◌, ◌==◌, false, List, [], ◌∷◌, ◌++◌, Some, None, find, codes, decimal}
use Rattle.std.proofs.Common.{refl, sym, ap, subst, arith, ◌∙◌, inl, inr}
use Rattle.std.proofs.lemmas.List.Elements.{All-append}
use Rattle.std.proofs.lemmas.Option.{none-some, same_Some}
use Rattle.row_state.specs.declared.bound.TheConstants.{PARITY_LOG, COMPONENT_LOG}
use Rattle.row_state.specs.Versions.{IsVersion}
use Rattle.log_lines.specs.Words.{is_word, number_below}
use Rattle.log_lines.proofs.Decimals.{above_decimal, decimal_one}
use Rattle.log_lines.proofs.Names.{same_behind}
use Rattle.log_lines.proofs.Numbers.{chosen, found_below, is_below, is_other, is_same, same_words}
use Rattle.log_lines.proofs.Splits.{Lacks, above_lacks}
use Rattle.bound_log.specs.Line.{version_in}
use Rattle.bound_log.specs.Text.{version_line}
use Rattle.bound_log.proofs.Again.{by_test}

pub version_small : (v : ℕ) → IsVersion v → v < 3
version_small v known = elim known [ inl e ↦ omega (arith, e) | inr e ↦ omega (arith, e) ]

-- lines of different versions differ
pub version_one : (a b : ℕ) → IsVersion b → version_line a ≡ version_line b → a ≡ b
version_one a b known same = decimal_one a b (omega (arith, version_small b known)) (same_behind (codes "cellgen-log ") (decimal a) (decimal b) same)

pub version_lacks : (v : ℕ) → Lacks 10 (version_line v)
version_lacks v = All-append (λ b. (b == 10) ≡ false) (codes "cellgen-log ") (decimal v) (above_lacks 31 10 (codes "cellgen-log ") (omega arith) (by_test 31 (codes "cellgen-log ") refl)) (above_lacks 47 10 (decimal v) (omega arith) (above_decimal v))

version_again : (v : ℕ) → IsVersion v → version_in (version_line v) ≡ Some v
unfolding version_in
version_again v known = elim known [
  | inl e ↦ rw (is_same (version_line v) (version_line PARITY_LOG) (ap version_line e)) (ap Some (sym e))
  | inr e ↦ elim (chosen (is_word (version_line v) (version_line PARITY_LOG)) (Some PARITY_LOG) (find (λ version. is_word (version_line v) (version_line version)) (COMPONENT_LOG ∷ [])) (version_in (version_line v)) refl) [
    | inl y ↦ absurd (omega (arith, e, version_one v PARITY_LOG (inl refl) (same_words (version_line v) (version_line PARITY_LOG) y.0)))
    | inr n ↦ rw (n.0, is_same (version_line v) (version_line COMPONENT_LOG) (ap version_line e)) (ap Some (sym e))
  ]
]

-- the version of the line is read
pub version_found : (line : List ℕ) (v : ℕ) → IsVersion v → line ≡ version_line v → version_in line ≡ Some v
version_found line v known is = ap version_in is ∙ version_again v known

pub version_missing : (line : List ℕ) → ((v : ℕ) → IsVersion v → line ≢ version_line v) → version_in line ≡ None
unfolding version_in
version_missing line other = rw (is_other line (version_line PARITY_LOG) (other PARITY_LOG (inl refl)), is_other line (version_line COMPONENT_LOG) (other COMPONENT_LOG (inr refl))) refl

-- and no other
pub version_spelled : (line : List ℕ) (v : ℕ) → version_in line ≡ Some v → (line ≡ version_line v) × IsVersion v
unfolding version_in
version_spelled line v h = elim (chosen (is_word line (version_line PARITY_LOG)) _ _ _ h) [
  | inl y ↦ let same : PARITY_LOG ≡ v = same_Some PARITY_LOG v y.1 in (same_words line (version_line PARITY_LOG) y.0 ∙ ap version_line same, inl (sym same))
  | inr n ↦ elim (chosen (is_word line (version_line COMPONENT_LOG)) _ _ _ n.1) [
    | inl y ↦ let same : COMPONENT_LOG ≡ v = same_Some COMPONENT_LOG v y.1 in (same_words line (version_line COMPONENT_LOG) y.0 ∙ ap version_line same, inr (sym same))
    | inr none ↦ absurd (none-some v none.1)
  ]
]

-- ---- as it is read

pub no_front : (line : List ℕ) → ((rest : List ℕ) → line ≢ codes "cellgen-log " ++ rest) → version_in line ≡ None
no_front line other = version_missing line (λ v known. other (decimal v))

pub no_version : (line rest : List ℕ) (limit : ℕ) → limit ≡ 3 → line ≡ codes "cellgen-log " ++ rest → None ≡ number_below limit rest → version_in line ≡ None
no_version line rest limit three is none = version_missing line (λ v known same.
    let number : rest ≡ decimal v = same_behind (codes "cellgen-log ") rest (decimal v) (sym is ∙ same) in
    none-some v (none ∙ is_below limit rest v number (omega (arith, three, version_small v known)) (omega (arith, three))))

pub other_version : (line rest : List ℕ) (limit n : ℕ) → line ≡ codes "cellgen-log " ++ rest → Some n ≡ number_below limit rest → (IsVersion n → ⊥) → version_in line ≡ None
other_version line rest limit n is some other = version_missing line (λ v known same.
    let number : decimal n ≡ decimal v = sym (found_below limit rest n (sym some)).0 ∙ same_behind (codes "cellgen-log ") rest (decimal v) (sym is ∙ same) in
    other (subst IsVersion (sym (decimal_one n v (omega (arith, version_small v known)) number)) known))

pub known_version : (line rest : List ℕ) (limit n : ℕ) → line ≡ codes "cellgen-log " ++ rest → Some n ≡ number_below limit rest → IsVersion n → version_in line ≡ Some n
known_version line rest limit n is some known = version_found line n known (is ∙ ap (λ (bs : List ℕ). codes "cellgen-log " ++ bs) (found_below limit rest n (sym some)).0)
