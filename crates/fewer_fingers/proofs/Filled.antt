-- Columns without the fingers that are left out: those in which a finger still stands are columns of the same gate.
use Rattle.std.proofs.Common.{◌≡◌, ◌||◌, Bool, true, false, List, [], ◌∷◌, Option, Some, None, option_map}
use Rattle.std.proofs.Common.{refl, sym, ap, subst, ◌∙◌, inl, inr}
use Rattle.std.specs.List.{cons_option, filter}
use Rattle.std.specs.Option.{is_some}
use Rattle.std.proofs.Math.Bool.{or_comm}
use Rattle.std.proofs.lemmas.Bool.{cases_Bool}
use Rattle.cell_num.specs.declared.net.NetNo.{NetNo}
use Rattle.cell_num.specs.declared.finger.Row.{Row}
use Rattle.cell_num.specs.declared.finger.Row.TheVariants.{P, N}
use Rattle.row_model.specs.declared.column.Placed.{Placed}
use Rattle.row_model.specs.declared.column.Column.{Column}
use Rattle.row_model.specs.Arrangement.{AreOneColumn, IsColumn, fingers_in, place}
use Rattle.row_state.specs.Order.{gate_key}
use Rattle.trail_state.proofs.Grouped.{gate_at}
use Rattle.trail_state.proofs.Members.{filter_off, filter_on}
use Rattle.fewer_fingers.specs.declared.fewer.LeftOut.{LeftOut}
use Rattle.fewer_fingers.specs.Fewer.{is_out}
use Rattle.fewer_fingers.proofs.Thinned.{other, thin, thin_gone, thin_here, thin_is, thinned}

-- a finger stands in a row of the column
abbrev pub filled : Column → Bool
filled c = is_some c.p || is_some c.n

turned : (o q : Option Placed) → AreOneColumn o q → AreOneColumn q o
turned None None one = one
turned None (Some y) one = one
turned (Some x) None one = one
turned (Some x) (Some y) one = (sym one.0, one.2, one.1)

turned_gate : (o q : Option Placed) → AreOneColumn o q → gate_key o q ≡ gate_key q o
turned_gate None None one = refl
turned_gate None (Some y) one = refl
turned_gate (Some x) None one = refl
turned_gate (Some x) (Some y) one = ap (λ (n : NetNo). n.0) one.0

-- the finger beside a place is a column by itself
alone : (o q : Option Placed) → AreOneColumn o q → is_some q ≡ true → AreOneColumn None q
alone None q one some = one
alone (Some x) None one some = absurd cc
alone (Some x) (Some y) one some = one.2

alone_gate : (o q : Option Placed) → AreOneColumn o q → is_some q ≡ true → gate_key None q ≡ gate_key o q
alone_gate None q one some = refl
alone_gate (Some x) None one some = absurd cc
alone_gate (Some x) (Some y) one some = sym (ap (λ (n : NetNo). n.0) one.0)

-- what stays of two places is a column of the same gate
record StayOne (out : LeftOut) (o q : Option Placed) : Type 0 where
  pub one : AreOneColumn (thin out o) q
  pub gate : gate_key (thin out o) q ≡ gate_key o q

stay_one : (out : LeftOut) (o q : Option Placed) → AreOneColumn o q → (is_some (thin out o) || is_some q) ≡ true
    → StayOne out o q
stay_one out o q one some = elim (thin_is out o) [
  | inl gone ↦
      let beside : is_some q ≡ true = sym (ap (λ v. is_some v || is_some q) gone) ∙ some in
      record {
        one = subst (λ v. AreOneColumn v q) (sym gone) (alone o q one beside);
        gate = ap (λ v. gate_key v q) gone ∙ alone_gate o q one beside;
      }
  | inr same ↦ record {
    one = subst (λ v. AreOneColumn v q) (sym same) one;
    gate = ap (λ v. gate_key v q) same;
  }
]

pub record StaysColumn (r : Row) (out : LeftOut) (c : Column) : Type 0 where
  pub one : IsColumn (thinned r out c)
  pub gate : gate_at (thinned r out c) ≡ gate_at c

pub stays_column : (r : Row) (out : LeftOut) (c : Column) → IsColumn c → filled (thinned r out c) ≡ true
    → StaysColumn r out c
stays_column P out c one some =
    let both : StayOne out c.p c.n = stay_one out c.p c.n one some in
    record { one = both.one; gate = both.gate }
stays_column N out c one some =
    let both : StayOne out c.n c.p =
    stay_one out c.n c.p (turned c.p c.n one) (or_comm (is_some (thin out c.n)) (is_some c.p) ∙ some) in
    record {
      one = turned (thin out c.n) c.p both.one;
      gate = sym (turned_gate (thin out c.n) c.p both.one) ∙ both.gate ∙ sym (turned_gate c.p c.n one);
    }

-- on a gate of which fingers are left out the place of the row is empty
thin_none : (out : LeftOut) (o q : Option Placed) → is_out out (gate_key o q) ≡ true → thin out o ≡ None
thin_none out None q gone = refl
thin_none out (Some x) q gone = thin_gone out x gone

pub place_gone : (r : Row) (out : LeftOut) (c : Column) → IsColumn c → is_out out (gate_at c) ≡ true
    → place r (thinned r out c) ≡ None
place_gone P out c one gone = thin_none out c.p c.n gone
place_gone N out c one gone = thin_none out c.n c.p (ap (is_out out) (sym (turned_gate c.p c.n one)) ∙ gone)

-- a column of another gate is as before
thin_same : (out : LeftOut) (o q : Option Placed) → is_out out (gate_key o q) ≡ false → thin out o ≡ o
thin_same out None q here = refl
thin_same out (Some x) q here = thin_here out x here

pub column_same : (r : Row) (out : LeftOut) (c : Column) → IsColumn c → is_out out (gate_at c) ≡ false
    → thinned r out c ≡ c
column_same P out c one here =
    ap (λ (o : Option Placed). let d : Column = record { p = o; n = c.n } in d) (thin_same out c.p c.n here)
column_same N out c one here =
    ap (λ (o : Option Placed). let d : Column = record { p = c.p; n = o } in d)
    (thin_same out c.n c.p (ap (is_out out) (sym (turned_gate c.p c.n one)) ∙ here))

some_place : (o q : Option Placed) → AreOneColumn o q → (is_some o || is_some q) ≡ true
some_place None None one = absurd one
some_place None (Some y) one = refl
some_place (Some x) q one = refl

pub column_filled : (c : Column) → IsColumn c → filled c ≡ true
column_filled c one = some_place c.p c.n one

pub filled_beside : (r : Row) (c : Column) → filled c ≡ true → place r c ≡ None → is_some (place (other r) c) ≡ true
filled_beside P c some none = sym (ap (λ o. is_some o || is_some c.n) none) ∙ some
filled_beside N c some none =
    or_comm false (is_some c.p) ∙ sym (ap (λ o. is_some c.p || is_some o) none) ∙ some

-- the columns in which no finger stands hold none
no_place : (o q : Option Placed) → (is_some o || is_some q) ≡ false → (o ≡ None) × (q ≡ None)
no_place None None empty = (refl, refl)
no_place None (Some y) empty = absurd cc
no_place (Some x) q empty = absurd cc

place_empty : (r : Row) (c : Column) → filled c ≡ false → place r c ≡ None
place_empty P c empty = (no_place c.p c.n empty).0
place_empty N c empty = (no_place c.p c.n empty).1

pub fingers_filled : (r : Row) (cs : List Column) → fingers_in r (filter filled cs) ≡ fingers_in r cs
fingers_filled r [] = refl
fingers_filled r (c ∷ cs) =
    elim (cases_Bool (filled c)) [
      | inl some ↦
          ap (fingers_in r) (filter_on filled c cs some)
          ∙ ap (cons_option (option_map (λ (x : Placed). x.finger) (place r c))) (fingers_filled r cs)
      | inr empty ↦
          ap (fingers_in r) (filter_off filled c cs empty)
          ∙ fingers_filled r cs
          ∙ sym (ap (λ o. cons_option (option_map (λ (x : Placed). x.finger) o) (fingers_in r cs))
          (place_empty r c empty))
    ]
