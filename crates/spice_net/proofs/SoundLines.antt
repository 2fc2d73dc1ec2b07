-- What holds of each transistor that the lines inside a subcircuit give.
use Rattle.std.proofs.Common.{ℕ, ◌≡◌, ◌≤◌, ◌*◌, ◌==◌, ◌&&◌, not, Bool, true, false, cond, List, [], ◌∷◌, refl, sym, subst, ap, ◌∙◌, inl, inr, arith}
use Rattle.std.specs.Prelude.{All, nat_le, nat_lt, bytes_eq, Option, Some, None, Result, Ok, option_and_then, codes}
use Rattle.std.proofs.lemmas.Bool.{cases_Bool, and_parts, not-true, leb-true, ltb-false}
use Rattle.std.proofs.lemmas.List.Elements.{All-cons, All-nil, All-weaker}
use Rattle.cell_num.specs.declared.length.Fixed.{Fixed}
use Rattle.cell_num.specs.declared.finger.Row.{Row}
use Rattle.cell_num.specs.Length.{units_up_to, nearest_units}
use Rattle.spice_text.specs.declared.logical.Line.{Line}
use Rattle.spice_text.specs.Numbers.{fixed_of}
use Rattle.tech_file.specs.Technology.{Technology}
use Rattle.spice_net.specs.declared.fault.SpiceFault.{SpiceFault}
use Rattle.spice_net.specs.declared.fault.SpiceFault.TheVariants as fault
use Rattle.spice_net.specs.Transistors.{Transistor}
use Rattle.spice_net.specs.declared.sizes.Sizes.{Sizes}
use Rattle.spice_net.specs.Chosen.{first_is}
use Rattle.spice_net.specs.Reader.{transistor_as}
use Rattle.cell_num.specs.Steps.{require, ◌>>=◌}
use Rattle.cell_num.proofs.Steps.{granted_step, granted_require, granted_option}
use Rattle.spice_net.specs.Numbers.{unit_pm, units_of, whole_of, counted, count_of, least_width}
use Rattle.spice_net.specs.Transistors.{Fields, fields_of, sizes_of, row_of, own_rail, other_rail, is_rail, rails_allowed, transistor_with, transistor_of, is_transistor, with_line, transistors_of}

pub ok_is : (t u : Transistor) → ◌≡◌ {A = Result Transistor SpiceFault} (Ok t) (Ok u) → t ≡ u
ok_is t u e = cc

pub oks_are : (ts us : List Transistor) → ◌≡◌ {A = Result (List Transistor) SpiceFault} (Ok ts) (Ok us) → ts ≡ us
oks_are ts us e = cc

-- ---- a transistor

-- It has 1 to 64 copies and is cut into at least 1 to 64 fingers, with 6 units for each. Its width is 6 to
-- 100,000 units, its gate is no rail, and its ends are not the other row's.
pub record IsRight (tech : Technology) (t : Transistor) : Type 0 where
  pub copies : (1 ≤ t.copies) × (t.copies ≤ 64)
  pub fingers : (1 ≤ t.fingers) × (t.fingers ≤ 64)
  pub wide_enough : 6 * t.fingers ≤ t.width
  pub least : 6 ≤ t.width
  pub most : t.width ≤ 100000
  pub gate : is_rail tech t.gate ≡ false
  pub drain : bytes_eq t.drain (other_rail tech t.row) ≡ false
  pub source : bytes_eq t.source (other_rail tech t.row) ≡ false

few_units : (most unit : ℕ) (metres : Fixed) (units : ℕ) → units_up_to most metres unit ≡ Some units → units ≤ most
few_units most unit metres units e = elim (cases_Bool (nat_lt most (nearest_units metres unit))) [
  | inl more ↦ absurd (none_is (sym (ap (λ (b : Bool). cond b None (Some (nearest_units metres unit))) more) ∙ e))
  | inr within ↦ omega (arith, ltb-false most (nearest_units metres unit) within, some_is (nearest_units metres unit) units (sym (ap (λ (b : Bool). cond b None (Some (nearest_units metres unit))) within) ∙ e))
]
  where
    none_is : ◌≡◌ {A = Option ℕ} None (Some units) → ⊥
    none_is e = absurd cc

    some_is : (x y : ℕ) → ◌≡◌ {A = Option ℕ} (Some x) (Some y) → x ≡ y
    some_is x y e = cc

few_in : (most unit : ℕ) (length : Option Fixed) (units : ℕ) → option_and_then (λ metres. units_up_to most metres unit) length ≡ Some units → units ≤ most
few_in most unit (Some metres) units e = few_units most unit metres units e
few_in most unit None units e = absurd cc

-- a count, where it is there, is one from 1 to 64
IsCount : Option ℕ → Type 0
IsCount count = (n : ℕ) → count ≡ Some n → (1 ≤ n) × (n ≤ 64)

is_count : (number : Fixed) (count : Option ℕ) → count_of number ≡ count → IsCount count
unfolding IsCount
is_count number count is = λ n e. of_whole (whole_of number.digits number.ten) n (is ∙ e)
  where
    some_is : (x y : ℕ) → ◌≡◌ {A = Option ℕ} (Some x) (Some y) → x ≡ y
    some_is x y e = cc

    of_whole : (whole : Option ℕ) (n : ℕ) → option_and_then counted whole ≡ Some n → (1 ≤ n) × (n ≤ 64)
    of_whole None n e = absurd cc
    of_whole (Some m) n e = elim (cases_Bool (nat_le 1 m && nat_le m 64)) [
      | inl within ↦
          let same : m ≡ n = some_is m n (sym (ap (λ (b : Bool). cond b (Some m) None) within) ∙ e) in
          let both = and_parts (nat_le 1 m) (nat_le m 64) within in
          (omega (arith, same, leb-true 1 m both.0), omega (arith, same, leb-true m 64 both.1))
      | inr beyond ↦ absurd (none_is (sym (ap (λ (b : Bool). cond b (Some m) None) beyond) ∙ e))
    ]
      where
        none_is : ◌≡◌ {A = Option ℕ} None (Some n) → ⊥
        none_is e = absurd cc

record AreSizes (sizes : Sizes) : Type 0 where
  width : sizes.width ≤ 100000
  copies : IsCount sizes.copies
  fingers : IsCount sizes.fingers

are_sizes : (tech : Technology) (line : ℕ) (fields : Fields) (sizes : Sizes) → sizes_of tech line fields ≡ Ok sizes → AreSizes sizes
are_sizes tech line fields sizes e =
    let width = granted_option (units_of tech fields.width) (fault.Number line) _ sizes e in
    let channel = granted_option (units_of tech fields.channel) (fault.Number line) _ sizes width.2 in
    let m = granted_option (fixed_of fields.m) (fault.Number line) _ sizes channel.2 in
    let nf = granted_option (fixed_of fields.nf) (fault.Number line) _ sizes m.2 in
    let made : width.0 ≡ sizes.width = cc in
    let copies : count_of m.0 ≡ sizes.copies = cc in
    let fingers : count_of nf.0 ≡ sizes.fingers = cc in
    record {
      width = omega (arith, few_in 100000 (unit_pm tech) (fixed_of fields.width) width.0 width.1, made);
      copies = is_count m.0 sizes.copies copies;
      fingers = is_count nf.0 sizes.fingers fingers;
    }

right_with : (tech : Technology) (line : ℕ) (fields : Fields) (t : Transistor) → transistor_with tech line fields ≡ Ok t → IsRight tech t
unfolding IsCount
right_with tech line fields t e =
    let row = granted_option (row_of tech fields.model) (fault.Model line) _ t e in
    let sizes = granted_step (sizes_of tech line fields) _ t row.2 in
    let channel = granted_require (sizes.0.channel == 4) (fault.Length line sizes.0.channel) _ t sizes.2 in
    let wide = granted_require (nat_le (least_width sizes.0.fingers) sizes.0.width) (fault.Narrow line sizes.0.width) _ t channel.1 in
    let bulk = granted_require (bytes_eq fields.bulk (own_rail tech row.0)) (fault.Body line) _ t wide.1 in
    let rails = granted_require (rails_allowed tech row.0 fields) (fault.Rail line) _ t bulk.1 in
    let copies = granted_option sizes.0.copies (fault.Multiple line) _ t rails.1 in
    let fingers = granted_option sizes.0.fingers (fault.Multiple line) _ t copies.2 in
    made row.0 sizes.0 copies.0 fingers.0 copies.1 fingers.1 wide.0 rails.0 (are_sizes tech line fields sizes.0 sizes.1) fingers.2
  where
    made : (row : Row) (sizes : Sizes) (copies fingers : ℕ) → sizes.copies ≡ Some copies → sizes.fingers ≡ Some fingers → nat_le (least_width sizes.fingers) sizes.width ≡ true → rails_allowed tech row fields ≡ true → AreSizes sizes → ◌≡◌ {A = Result Transistor SpiceFault} (Ok (transistor_as (record { copies = copies; row = row; width = sizes.width; fingers = fingers }) fields)) (Ok t) → IsRight tech t
    made row sizes copies fingers some_copies some_fingers wide rails right is =
        let all = and_parts (not (is_rail tech fields.gate) && not (bytes_eq fields.drain (other_rail tech row))) (not (bytes_eq fields.source (other_rail tech row))) rails in
        let first = and_parts (not (is_rail tech fields.gate)) (not (bytes_eq fields.drain (other_rail tech row))) all.0 in
        let count : (1 ≤ fingers) × (fingers ≤ 64) = right.fingers fingers some_fingers in
        let units : 6 * fingers ≤ sizes.width = leb-true (6 * fingers) sizes.width (ap (λ (o : Option ℕ). nat_le (least_width o) sizes.width) (sym some_fingers) ∙ wide) in
        subst (λ (u : Transistor). IsRight tech u) (ok_is (transistor_as (record { copies = copies; row = row; width = sizes.width; fingers = fingers }) fields) t is) (record {
          copies = right.copies copies some_copies;
          fingers = count;
          wide_enough = units;
          least = omega (arith, units, count.0);
          most = right.width;
          gate = not-true (is_rail tech fields.gate) first.0;
          drain = not-true (bytes_eq fields.drain (other_rail tech row)) first.1;
          source = not-true (bytes_eq fields.source (other_rail tech row)) all.1;
        })

right_of : (tech : Technology) (line : ℕ) (words : List (List ℕ)) (t : Transistor) → transistor_of tech line words ≡ Ok t → IsRight tech t
right_of tech line words t e =
    let fields = granted_step (fields_of line words) (transistor_with tech line) t e in
    right_with tech line fields.0 t fields.2

-- a line's transistor in front of those of the lines behind it
right_line : (tech : Technology) (line : Line) (behind : Result (List Transistor) SpiceFault) (ts : List Transistor) → ((more : List Transistor) → behind ≡ Ok more → All (IsRight tech) more) → with_line tech line behind ≡ Ok ts → All (IsRight tech) ts
right_line tech line behind ts rest e = elim (cases_Bool (is_transistor line.words)) [
  | inl found ↦
      let first = granted_step (transistor_of tech line.number line.words) (λ transistor. behind >>= λ more. Ok (transistor ∷ more)) ts (sym (by_kind found) ∙ e) in
      let more = granted_step behind (λ more. Ok (first.0 ∷ more)) ts first.2 in
      subst (λ (us : List Transistor). All (IsRight tech) us) (oks_are (first.0 ∷ more.0) ts more.2) (All-cons (IsRight tech) first.0 more.0 (right_of tech line.number line.words first.0 first.1) (rest more.0 more.1))
  | inr other ↦ rest ts (granted_require (first_is (codes ".global") line.words) (fault.Element line.number) (λ _. behind) ts (sym (by_other other) ∙ e)).1
]
  where
    by_kind : is_transistor line.words ≡ true → with_line tech line behind ≡ (transistor_of tech line.number line.words >>= λ transistor. behind >>= λ more. Ok (transistor ∷ more))
    by_kind found = rw found refl

    by_other : is_transistor line.words ≡ false → with_line tech line behind ≡ (require (first_is (codes ".global") line.words) (fault.Element line.number) >>= λ _. behind)
    by_other other = rw other refl

pub all_right : (tech : Technology) (lines : List Line) (ts : List Transistor) → transistors_of tech lines ≡ Ok ts → All (IsRight tech) ts
all_right tech [] ts e = subst (λ (us : List Transistor). All (IsRight tech) us) (oks_are [] ts e) (All-nil (IsRight tech))
all_right tech (line ∷ lines) ts e = right_line tech line (transistors_of tech lines) ts (all_right tech lines) e

-- each stands for at most 64 equal ones
pub few_copies : (tech : Technology) (lines : List Line) (ts : List Transistor) → transistors_of tech lines ≡ Ok ts → All (λ (t : Transistor). t.copies ≤ 64) ts
few_copies tech lines ts e = All-weaker (IsRight tech) (λ (t : Transistor). t.copies ≤ 64) (λ t right. right.copies.1) ts (all_right tech lines ts e)
