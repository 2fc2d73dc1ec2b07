-- The tables of the record types agree.
use Rattle.std.proofs.Common.{ℕ, ◌≡◌, ◌==◌, Bool, cond, Option, Some, None, refl, sym, ap, ◌∙◌, inl, inr}
use Rattle.std.proofs.lemmas.Bool.{cases_Bool, eqb-true}
use Rattle.gds_record.specs.declared.types.RecordType.{RecordType}
use Rattle.gds_record.specs.declared.types.RecordType.TheVariants as record_type
use Rattle.gds_record.specs.Types.{number_of, type_numbered}

pub numbered : (t : RecordType) → type_numbered (number_of t) ≡ Some t
numbered record_type.Header = refl
numbered record_type.BgnLib = refl
numbered record_type.LibName = refl
numbered record_type.Units = refl
numbered record_type.EndLib = refl
numbered record_type.BgnStr = refl
numbered record_type.StrName = refl
numbered record_type.EndStr = refl
numbered record_type.Boundary = refl
numbered record_type.Path = refl
numbered record_type.SRef = refl
numbered record_type.ARef = refl
numbered record_type.Text = refl
numbered record_type.Node = refl
numbered record_type.Box = refl
numbered record_type.Layer = refl
numbered record_type.DataType = refl
numbered record_type.Width = refl
numbered record_type.Xy = refl
numbered record_type.SName = refl
numbered record_type.ColRow = refl
numbered record_type.TextType = refl
numbered record_type.Presentation = refl
numbered record_type.StringText = refl
numbered record_type.STrans = refl
numbered record_type.Mag = refl
numbered record_type.Angle = refl
numbered record_type.PathType = refl
numbered record_type.PropAttr = refl
numbered record_type.PropValue = refl
numbered record_type.EndEl = refl

-- ---- and back, a row of a table at a time

same_entry : {A : Type 0} (t u : A) → ◌≡◌ {A = Option A} (Some t) (Some u) → t ≡ u
same_entry t u e = cc

pub no_entry : {A : Type 0} (t : A) → ◌≡◌ {A = Option A} None (Some t) → ⊥
no_entry t e = absurd cc

-- what is read of a number is the entry of this row, which has the number, or that of a later row
pub row : {A : Type 0} (number : A → ℕ) (n k : ℕ) (t u : A) (later : Option A) → number u ≡ k → cond (n == k) (Some u) later ≡ Some t → (later ≡ Some t → number t ≡ n) → number t ≡ n
row number n k t u later is e more = elim (cases_Bool (n == k)) [
  | inl same ↦ sym (ap number (same_entry u t (sym (ap (λ (b : Bool). cond b (Some u) later) same) ∙ e))) ∙ (is ∙ sym (eqb-true n k same))
  | inr other ↦ more (sym (ap (λ (b : Bool). cond b (Some u) later) other) ∙ e)
]

pub numbered_only : (n : ℕ) (t : RecordType) → type_numbered n ≡ Some t → number_of t ≡ n
numbered_only n t e =
    row number_of n 0 t record_type.Header _ refl e
    (λ e. row number_of n 1 t record_type.BgnLib _ refl e
    (λ e. row number_of n 2 t record_type.LibName _ refl e
    (λ e. row number_of n 3 t record_type.Units _ refl e
    (λ e. row number_of n 4 t record_type.EndLib _ refl e
    (λ e. row number_of n 5 t record_type.BgnStr _ refl e
    (λ e. row number_of n 6 t record_type.StrName _ refl e
    (λ e. row number_of n 7 t record_type.EndStr _ refl e
    (λ e. row number_of n 8 t record_type.Boundary _ refl e
    (λ e. row number_of n 9 t record_type.Path _ refl e
    (λ e. row number_of n 10 t record_type.SRef _ refl e
    (λ e. row number_of n 11 t record_type.ARef _ refl e
    (λ e. row number_of n 12 t record_type.Text _ refl e
    (λ e. row number_of n 13 t record_type.Layer _ refl e
    (λ e. row number_of n 14 t record_type.DataType _ refl e
    (λ e. row number_of n 15 t record_type.Width _ refl e
    (λ e. row number_of n 16 t record_type.Xy _ refl e
    (λ e. row number_of n 17 t record_type.EndEl _ refl e
    (λ e. row number_of n 18 t record_type.SName _ refl e
    (λ e. row number_of n 19 t record_type.ColRow _ refl e
    (λ e. row number_of n 21 t record_type.Node _ refl e
    (λ e. row number_of n 22 t record_type.TextType _ refl e
    (λ e. row number_of n 23 t record_type.Presentation _ refl e
    (λ e. row number_of n 25 t record_type.StringText _ refl e
    (λ e. row number_of n 26 t record_type.STrans _ refl e
    (λ e. row number_of n 27 t record_type.Mag _ refl e
    (λ e. row number_of n 28 t record_type.Angle _ refl e
    (λ e. row number_of n 33 t record_type.PathType _ refl e
    (λ e. row number_of n 43 t record_type.PropAttr _ refl e
    (λ e. row number_of n 44 t record_type.PropValue _ refl e
    (λ e. row number_of n 45 t record_type.Box _ refl e
    (λ e. absurd (no_entry t e))))))))))))))))))))))))))))))))
