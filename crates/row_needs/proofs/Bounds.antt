-- What the bound of a cell says of a state.
use Rattle.std.proofs.Common.{ℕ, ◌≡◌, ◌<◌, ◌↔◌, cond, false, Option, Some, None, inl, inr, refl, sym, ap, subst, ◌∙◌}
use Rattle.std.specs.Prelude.{IfNone, IfSome, IsSome, IsTrue, is_some, nat_eq, nat_lt}
use Rattle.std.specs.HashMap.{get}
use Rattle.std.specs.Option.{ForSome, option_map, unwrap_or}
use Rattle.std.proofs.lemmas.Bool.{cases_Bool, false≢true}
use Rattle.std.proofs.lemmas.Bool.Decides.{Decides-ltb}
use Rattle.cell_num.specs.declared.finger.Row.{Row}
use Rattle.cell_num.specs.declared.finger.Row.TheVariants.{P, N}
use Rattle.cell_num.specs.declared.net.NetNo.{NetNo}
use Rattle.cell_num.proofs.Lists.{some_same}
use Rattle.row_model.specs.declared.column.Column.{Column}
use Rattle.row_model.specs.Gaps.{right_net}
use Rattle.row_state.specs.declared.candidate.Candidate.{Candidate}
use Rattle.row_state.specs.declared.kind.Kinds.{Kinds}
use Rattle.row_state.specs.declared.state.State.{State}
use Rattle.row_state.specs.Completion.{Need}
use Rattle.row_state.specs.Component.{component_value}
use Rattle.row_state.specs.ComponentLaw.{component_holds}
use Rattle.row_state.specs.Decoded.{rows_code}
use Rattle.row_state.specs.Start.{AreSomeKinds, IsState}
use Rattle.row_state.specs.Steps.{column_of, state_after}
use Rattle.row_needs.specs.declared.needs.Needs.{Needs}
use Rattle.row_needs.specs.declared.rest.Rest.{Rest}
use Rattle.row_needs.specs.Above.{IsAboveGaps}
use Rattle.row_needs.specs.Bound.{NeedBound, are_same_kinds, need_by, need_in, value_by}
use Rattle.row_needs.specs.Need.{IsNeed}
use Rattle.row_needs.specs.Rest.{AreRests, HasRest, need_at, need_behind}
use Rattle.row_needs.specs.Table.{AreLeast, HasTable}
use Rattle.row_needs.proofs.Rests.{need_is}
use Rattle.row_needs.proofs.SameKinds.{kinds_decide}

-- ---- the need that the table has

entry_with : (s : State) (rest : Option Rest) (holds : ℕ → Type 0) → ((r : Rest) → rest ≡ Some r → holds (need_at s r)) → IfSome (option_map (need_at s) rest) holds
entry_with s None holds each = tt
entry_with s (Some r) holds each = each r refl

entry_there : (s : State) (rest : Option Rest) → IfSome (option_map (need_at s) rest) (λ _. IsSome rest)
entry_there s None = tt
entry_there s (Some r) = refl

entry_none : (s : State) (rest : Option Rest) → IfNone (option_map (need_at s) rest) (IsSome rest → ⊥)
entry_none s None = λ has. false≢true has
entry_none s (Some r) = tt

pub read_need : (k : Kinds) (needs : Needs) (s : State) (number : ℕ) → number ≡ rows_code k s → IsState k s → AreRests k needs → IfSome (option_map (need_at s) (get nat_eq needs.rests number)) (IsNeed k s)
read_need k needs s number is valid sound = entry_with s (get nat_eq needs.rests number) (IsNeed k s) (λ r there. need_is k s r (sound s r valid (ap (get nat_eq needs.rests) (sym is) ∙ there)).0)

pub read_there : (k : Kinds) (needs : Needs) (s : State) (number : ℕ) → number ≡ rows_code k s → IfSome (option_map (need_at s) (get nat_eq needs.rests number)) (λ _. HasRest k needs s)
read_there k needs s number is = subst (λ n. IfSome (option_map (need_at s) (get nat_eq needs.rests number)) (λ _. IsSome (get nat_eq needs.rests n))) is (entry_there s (get nat_eq needs.rests number))

pub read_none : (k : Kinds) (needs : Needs) (s : State) (number : ℕ) → number ≡ rows_code k s → IfNone (option_map (need_at s) (get nat_eq needs.rests number)) (HasRest k needs s → ⊥)
read_none k needs s number is = subst (λ n. IfNone (option_map (need_at s) (get nat_eq needs.rests number)) (IsSome (get nat_eq needs.rests n) → ⊥)) is (entry_none s (get nat_eq needs.rests number))

-- the open ends behind a column are those of the state after it
pub behind_is : (k : Kinds) (needs : Needs) (s : State) (c : Candidate) (number : ℕ) (p n : Option NetNo) → c.column ≡ column_of k c.step → p ≡ option_map right_net c.column.p → n ≡ option_map right_net c.column.n → option_map (need_behind p n) (get nat_eq needs.rests number) ≡ option_map (need_at (state_after k s c.step)) (get nat_eq needs.rests number)
behind_is k needs s c number p n column p_is n_is =
    ap (λ e. option_map (need_behind e n) (get nat_eq needs.rests number)) p_is
    ∙ ap (λ e. option_map (need_behind (option_map right_net c.column.p) e) (get nat_eq needs.rests number)) n_is
    ∙ ap (λ (z : Column). option_map (need_behind (option_map right_net z.p) (option_map right_net z.n)) (get nat_eq needs.rests number)) column

rests_least : (k : Kinds) (needs : Needs) → AreRests k needs → AreLeast k needs
rests_least k needs sound s rest valid there = ((need_is k s rest (sound s rest valid there).0).least, (sound s rest valid there).1)

pub table_least : (limit : ℕ) (k : Kinds) (needs : Option Needs) → HasTable limit k needs → ForSome needs (AreLeast k)
table_least limit k None has = λ x e. absurd (false≢true (ap is_some e))
table_least limit k (Some needs) has = λ x e. subst (AreLeast k) (some_same needs x e) (rests_least k needs has.0.rests)

table_low : (k : Kinds) (s : State) (needs : Option Needs) → ForSome needs (AreLeast k) → IsState k s → IfSome (need_in needs s k) (Need k s)
table_low k s None sound valid = tt
table_low k s (Some needs) sound valid = entry_with s (get nat_eq needs.rests (rows_code k s)) (Need k s) (λ r there. (sound needs refl s r valid there).0)

-- ---- the need that the bound knows

pub by_same : (b : NeedBound) (s : State) (k : Kinds) → k ≡ b.kinds → need_by b s k ≡ need_in b.needs s k
by_same b s k same = ap (λ t. cond t (need_in b.needs s k) None) ((kinds_decide k b.kinds).1 same)

by_apart : (b : NeedBound) (s : State) (k : Kinds) → are_same_kinds k b.kinds ≡ false → need_by b s k ≡ None
by_apart b s k apart = ap (λ t. cond t (need_in b.needs s k) None) apart

pub by_other : (b : NeedBound) (s : State) (k : Kinds) → (k ≡ b.kinds → ⊥) → need_by b s k ≡ None
by_other b s k other = elim (cases_Bool (are_same_kinds k b.kinds)) [
  | inl same ↦ absurd (other ((kinds_decide k b.kinds).0 same))
  | inr apart ↦ by_apart b s k apart
]

pub by_read : (b : NeedBound) (needs : Needs) (s : State) (k : Kinds) (number : ℕ) → k ≡ b.kinds → b.needs ≡ Some needs → number ≡ rows_code k s → option_map (need_at s) (get nat_eq needs.rests number) ≡ need_by b s k
by_read b needs s k number same there is = ap (λ n. option_map (need_at s) (get nat_eq needs.rests n)) is ∙ sym (by_same b s k same ∙ ap (λ o. need_in o s k) there)

by_low : (b : NeedBound) (s : State) (k : Kinds) → IsState k s → IfSome (need_by b s k) (Need k s)
by_low b s k valid = elim (cases_Bool (are_same_kinds k b.kinds)) [
  | inl test ↦
      let same : k ≡ b.kinds = (kinds_decide k b.kinds).0 test in
      subst (λ o. IfSome o (Need k s)) (sym (by_same b s k same)) (table_low k s b.needs (subst (λ j. ForSome b.needs (AreLeast j)) (sym same) b.sound) valid)
  | inr apart ↦ subst (λ o. IfSome o (Need k s)) (sym (by_apart b s k apart)) tt
]

-- ---- what it says of a row

pub value_is : (b : NeedBound) (row : Row) (s : State) (k : Kinds) → value_by b row s k ≡ unwrap_or (need_by b s k) (component_value row s k)
unfolding value_by
value_is b row s k = refl

or_component : (k : Kinds) (s : State) (row : Row) (need : Option ℕ) → IfSome need (Need k s) → Need k s (component_value row s k) → Need k s (unwrap_or need (component_value row s k))
or_component k s row None known low = low
or_component k s row (Some n) known low = known

-- no completion has fewer further gaps
pub value_holds : (b : NeedBound) (row : Row) (s : State) (k : Kinds) → AreSomeKinds k → IsState k s → Need k s (value_by b row s k)
value_holds b row s k some valid = subst (Need k s) (sym (value_is b row s k)) (or_component k s row (need_by b s k) (by_low b s k valid) (component_holds k s row some))

value_known : (b : NeedBound) (row : Row) (s : State) (k : Kinds) (need : ℕ) → Some need ≡ need_by b s k → value_by b row s k ≡ need
value_known b row s k need known = value_is b row s k ∙ ap (λ o. unwrap_or o (component_value row s k)) (sym known)

value_unknown : (b : NeedBound) (row : Row) (s : State) (k : Kinds) → None ≡ need_by b s k → value_by b row s k ≡ component_value row s k
value_unknown b row s k unknown = value_is b row s k ∙ ap (λ o. unwrap_or o (component_value row s k)) (sym unknown)

pub above_known : (b : NeedBound) (s : State) (k : Kinds) (gaps need : ℕ) → Some need ≡ need_by b s k → IsTrue (nat_lt gaps need) ↔ IsAboveGaps (value_by b) k s gaps
above_known b s k gaps need known = (
  λ h. inl (subst (λ n. gaps < n) (sym (value_known b P s k need known)) ((Decides-ltb gaps need).0 h)),
  elim [
    | inl h ↦ (Decides-ltb gaps need).1 (subst (λ n. gaps < n) (value_known b P s k need known) h)
    | inr h ↦ (Decides-ltb gaps need).1 (subst (λ n. gaps < n) (value_known b N s k need known) h)
  ],
)

pub above_unknown : (b : NeedBound) (s : State) (k : Kinds) (gaps : ℕ) → None ≡ need_by b s k → IsAboveGaps component_value k s gaps ↔ IsAboveGaps (value_by b) k s gaps
above_unknown b s k gaps unknown = (
  elim [
    | inl h ↦ inl (subst (λ n. gaps < n) (sym (value_unknown b P s k unknown)) h)
    | inr h ↦ inr (subst (λ n. gaps < n) (sym (value_unknown b N s k unknown)) h)
  ],
  elim [
    | inl h ↦ inl (subst (λ n. gaps < n) (value_unknown b P s k unknown) h)
    | inr h ↦ inr (subst (λ n. gaps < n) (value_unknown b N s k unknown) h)
  ],
)
