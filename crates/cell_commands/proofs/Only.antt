-- No two lists of steps list one row.
use Rattle.std.proofs.Common.{ℕ, ◌≡◌, ◌∷◌, [], Bool, List, Option, Some, None, All, AllPairs, inl, inr, refl, sym, ap, subst, slice_get, ◌∙◌}
use Rattle.std.specs.Option.{option_map}
use Rattle.std.proofs.lemmas.Bool.{cases_order}
use Rattle.std.proofs.lemmas.List.Elements.{All-head, All-tail}
use Rattle.std.proofs.lemmas.Option.{none-some, same_Some}
use Rattle.cell_num.specs.declared.finger.Finger.{Finger}
use Rattle.cell_num.specs.declared.finger.Row.{Row}
use Rattle.cell_num.specs.declared.finger.Row.TheVariants.{P, N}
use Rattle.cell_num.specs.declared.net.NetNo.{NetNo}
use Rattle.cell_num.proofs.Pairs.{pairs_at}
use Rattle.row_model.specs.declared.column.Column.{Column}
use Rattle.row_model.specs.declared.column.Placed.{Placed}
use Rattle.row_model.specs.Arrangement.{AreOneColumn, IsColumn}
use Rattle.row_state.specs.declared.kind.Kind.{Kind}
use Rattle.row_state.specs.declared.kind.Kinds.{Kinds}
use Rattle.row_state.specs.declared.step.Side.{Side}
use Rattle.row_state.specs.Completion.{finger_of}
use Rattle.row_state.specs.Order.{KeyBefore, KindBefore, kind_key}
use Rattle.row_state.specs.Start.{AreSomeKinds}
use Rattle.row_state.specs.Steps.{column_of, oriented_of, placed_of}
use Rattle.row_state.proofs.Keys.{key_untail}
use Rattle.bound_log.specs.declared.log.LogStep.{LogStep}
use Rattle.log_check.specs.Accepted.{HasGate, IsListed, columns_listed}

key_never : (xs : List ℕ) → KeyBefore xs xs → ⊥
key_never [] before = cc
key_never (x ∷ xs) before = key_never xs (key_untail x xs xs before)

-- the key of a kind, by its finger
finger_key : Finger → List ℕ
finger_key f = f.gate.0 ∷ f.lo.0 ∷ f.hi.0 ∷ f.width ∷ []

keys_same : (row : Row) (a b : Kind) → finger_of row a ≡ finger_of row b → kind_key a ≡ kind_key b
unfolding finger_key
keys_same row a b same = ap finger_key same

one_number : (row : Row) (kinds : List Kind) (i j : ℕ) (a b : Kind) → AllPairs KindBefore kinds → slice_get kinds i ≡ Some a → slice_get kinds j ≡ Some b → finger_of row a ≡ finger_of row b → i ≡ j
one_number row kinds i j a b order at_i at_j same =
    let keys : kind_key a ≡ kind_key b = keys_same row a b same in
    elim (cases_order i j) [
      | inl e ↦ e
      | inr other ↦ elim other [
        | inl less ↦ absurd (key_never (kind_key b) (subst (λ (key : List ℕ). KeyBefore key (kind_key b)) keys (pairs_at KindBefore kinds i j a b order less at_i at_j)))
        | inr more ↦ absurd (key_never (kind_key b) (subst (λ (key : List ℕ). KeyBefore (kind_key b) key) keys (pairs_at KindBefore kinds j i b a order more at_j at_i)))
      ]
    ]

made_side : ℕ → Bool → Side
made_side kind flipped = record { kind = kind; flipped = flipped }

same_sides : (s t : Side) → s.kind ≡ t.kind → s.flipped ≡ t.flipped → s ≡ t
unfolding made_side
same_sides s t kinds flips = ap (λ (n : ℕ). made_side n s.flipped) kinds ∙ ap (made_side t.kind) flips

-- where each is of a kind that there is
two_sides : (row : Row) (kinds : List Kind) (s t : Side) (a b : Option Kind) → AllPairs KindBefore kinds → slice_get kinds s.kind ≡ a → slice_get kinds t.kind ≡ b → (a ≡ None → ⊥) → (b ≡ None → ⊥) → option_map (λ (kind : Kind). oriented_of row kind s.flipped) a ≡ option_map (λ (kind : Kind). oriented_of row kind t.flipped) b → s ≡ t
two_sides row kinds s t None b order at_s at_t some_a some_b same = absurd (some_a refl)
two_sides row kinds s t (Some a) None order at_s at_t some_a some_b same = absurd (some_b refl)
two_sides row kinds s t (Some a) (Some b) order at_s at_t some_a some_b same =
    let one : oriented_of row a s.flipped ≡ oriented_of row b t.flipped = same_Some _ _ same in
    same_sides s t (one_number row kinds s.kind t.kind a b order at_s at_t (ap (λ (x : Placed). x.finger) one)) (ap (λ (x : Placed). x.flipped) one)

gate_some : (o : Option Kind) (gate : NetNo) → option_map (λ (kind : Kind). kind.gate) o ≡ Some gate → o ≡ None → ⊥
gate_some o gate has none = none-some gate (sym (ap (option_map (λ (kind : Kind). kind.gate)) none) ∙ has)

one_empty : (row : Row) (o : Option Kind) (flipped : Bool) → (o ≡ None → ⊥) → None ≡ option_map (λ (kind : Kind). oriented_of row kind flipped) o → ⊥
one_empty row None flipped some is = some refl
one_empty row (Some kind) flipped some is = none-some _ is

one_side : (row : Row) (kinds : List Kind) (g h : NetNo) (s t : Option Side) → AllPairs KindBefore kinds → HasGate kinds g s → HasGate kinds h t → placed_of row kinds s ≡ placed_of row kinds t → s ≡ t
one_side row kinds g h None None order of_s of_t same = refl
one_side row kinds g h None (Some t) order of_s of_t same = absurd (one_empty row (slice_get kinds t.kind) t.flipped (gate_some (slice_get kinds t.kind) h of_t) same)
one_side row kinds g h (Some s) None order of_s of_t same = absurd (one_empty row (slice_get kinds s.kind) s.flipped (gate_some (slice_get kinds s.kind) g of_s) (sym same))
one_side row kinds g h (Some s) (Some t) order of_s of_t same = ap (λ (x : Side). Some x) (two_sides row kinds s t (slice_get kinds s.kind) (slice_get kinds t.kind) order refl refl (gate_some (slice_get kinds s.kind) g of_s) (gate_some (slice_get kinds t.kind) h of_t) same)

-- the gate is that of the kinds
gate_at : (kinds : List Kind) (g h : NetNo) (s : Side) → HasGate kinds g (Some s) → HasGate kinds h (Some s) → g ≡ h
gate_at kinds g h s of_g of_h = same_Some g h (sym of_g ∙ of_h)

one_gate : (k : Kinds) (g h : NetNo) (p n : Option Side) → AreOneColumn (placed_of P k.p p) (placed_of N k.n n) → HasGate k.p g p → HasGate k.n g n → HasGate k.p h p → HasGate k.n h n → g ≡ h
one_gate k g h None None one p_g n_g p_h n_h = absurd one
one_gate k g h (Some p) n one p_g n_g p_h n_h = gate_at k.p g h p p_g p_h
one_gate k g h None (Some n) one p_g n_g p_h n_h = gate_at k.n g h n n_g n_h

made_step : NetNo → Option Side → Option Side → LogStep
made_step gate p n = record { gate = gate; step = record { p = p; n = n } }

same_steps : (a b : LogStep) → a.gate ≡ b.gate → a.step.p ≡ b.step.p → a.step.n ≡ b.step.n → a ≡ b
unfolding made_step
same_steps a b gate p n =
    ap (λ (g : NetNo). made_step g a.step.p a.step.n) gate
    ∙ ap (λ (x : Option Side). made_step b.gate x a.step.n) p
    ∙ ap (λ (x : Option Side). made_step b.gate b.step.p x) n

one_step : (k : Kinds) (a b : LogStep) → AreSomeKinds k → IsColumn (column_of k a.step) → IsListed k a → IsListed k b → column_of k a.step ≡ column_of k b.step → a ≡ b
one_step k a b some one of_a of_b same =
    let p : a.step.p ≡ b.step.p = one_side P k.p a.gate b.gate a.step.p b.step.p some.p_order of_a.p of_b.p (ap (λ (c : Column). c.p) same) in
    let n : a.step.n ≡ b.step.n = one_side N k.n a.gate b.gate a.step.n b.step.n some.n_order of_a.n of_b.n (ap (λ (c : Column). c.n) same) in
    let gate : a.gate ≡ b.gate = one_gate k a.gate b.gate a.step.p a.step.n one of_a.p of_a.n (subst (HasGate k.p b.gate) (sym p) of_b.p) (subst (HasGate k.n b.gate) (sym n) of_b.n) in
    same_steps a b gate p n

heads_same : (x y : Column) (xs ys : List Column) → x ∷ xs ≡ y ∷ ys → (x ≡ y) × (xs ≡ ys)
heads_same x y xs ys same = (cc, cc)

pub one_list : (k : Kinds) (row : List Column) (xs ys : List LogStep) → AreSomeKinds k → All IsColumn row → columns_listed k xs ≡ row → columns_listed k ys ≡ row → All (IsListed k) xs → All (IsListed k) ys → xs ≡ ys
one_list k row xs ys some columns is_x is_y of_x of_y = go xs ys (subst (All IsColumn) (sym is_x) columns) (is_x ∙ sym is_y) of_x of_y
  where
    go : (xs ys : List LogStep) → All IsColumn (columns_listed k xs) → columns_listed k xs ≡ columns_listed k ys → All (IsListed k) xs → All (IsListed k) ys → xs ≡ ys
    go [] [] all same of_x of_y = refl
    go [] (y ∷ ys) all same of_x of_y = cc
    go (x ∷ xs) [] all same of_x of_y = cc
    go (x ∷ xs) (y ∷ ys) all same of_x of_y =
        let both : (column_of k x.step ≡ column_of k y.step) × (columns_listed k xs ≡ columns_listed k ys) = heads_same (column_of k x.step) (column_of k y.step) (columns_listed k xs) (columns_listed k ys) same in
        let head : x ≡ y = one_step k x y some (All-head IsColumn (column_of k x.step) (columns_listed k xs) all) (All-head (IsListed k) x xs of_x) (All-head (IsListed k) y ys of_y) both.0 in
        let tail : xs ≡ ys = go xs ys (All-tail IsColumn (column_of k x.step) (columns_listed k xs) all) both.1 (All-tail (IsListed k) x xs of_x) (All-tail (IsListed k) y ys of_y) in
        ap (λ (z : LogStep). z ∷ xs) head ∙ ap (λ (zs : List LogStep). y ∷ zs) tail
