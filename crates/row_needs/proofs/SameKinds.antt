-- The test of two cells' kinds decides whether they are the same.
use Rattle.std.proofs.Common.{ℕ, ◌≡◌, List, ap}
use Rattle.std.specs.Bool.{Decides}
use Rattle.std.specs.Cmp.Lexicographic.{pointwise_decides}
use Rattle.std.proofs.lemmas.Bool.Decides.{Decides-and, Decides-eqb, Decides-like}
use Rattle.cell_num.specs.declared.net.NetNo.{NetNo}
use Rattle.row_model.proofs.Decide.{net_decides}
use Rattle.row_state.specs.declared.kind.Kind.{Kind}
use Rattle.row_state.specs.declared.kind.Kinds.{Kinds}
use Rattle.row_needs.specs.Bound.{are_same_kinds, is_same_kind}

make_kind : NetNo → NetNo → NetNo → ℕ → ℕ → Kind
make_kind g l h w c = record { gate = g; lo = l; hi = h; width = w; count = c }

made_kind : {g g' l l' h h' : NetNo} {w w' c c' : ℕ} → g ≡ g' → l ≡ l' → h ≡ h' → w ≡ w' → c ≡ c' → make_kind g l h w c ≡ make_kind g' l' h' w' c'
made_kind eg el eh ew ec = cc

same_kind : (a b : Kind) → a.gate ≡ b.gate → a.lo ≡ b.lo → a.hi ≡ b.hi → a.width ≡ b.width → a.count ≡ b.count → a ≡ b
unfolding make_kind
same_kind a b g l h w c = made_kind g l h w c

kind_decides : (a b : Kind) → Decides (is_same_kind a b) (a ≡ b)
kind_decides a b =
    Decides-like _ (λ (g, (l, (h, (w, c)))). same_kind a b g l h w c) (λ e. (ap (λ (x : Kind). x.gate) e, (ap (λ (x : Kind). x.lo) e, (ap (λ (x : Kind). x.hi) e, (ap (λ (x : Kind). x.width) e, ap (λ (x : Kind). x.count) e)))))
    (Decides-and _ _ (net_decides a.gate b.gate) (Decides-and _ _ (net_decides a.lo b.lo) (Decides-and _ _ (net_decides a.hi b.hi) (Decides-and _ _ (Decides-eqb a.width b.width) (Decides-eqb a.count b.count)))))

make_kinds : ℕ → List Kind → List Kind → Kinds
make_kinds nets p n = record { nets = nets; p = p; n = n }

made_kinds : {nets nets' : ℕ} {p p' n n' : List Kind} → nets ≡ nets' → p ≡ p' → n ≡ n' → make_kinds nets p n ≡ make_kinds nets' p' n'
made_kinds enets ep en = cc

same_kinds : (a b : Kinds) → a.nets ≡ b.nets → a.p ≡ b.p → a.n ≡ b.n → a ≡ b
unfolding make_kinds
same_kinds a b nets p n = made_kinds nets p n

pub kinds_decide : (a b : Kinds) → Decides (are_same_kinds a b) (a ≡ b)
kinds_decide a b =
    Decides-like _ (λ (nets, (p, n)). same_kinds a b nets p n) (λ e. (ap (λ (x : Kinds). x.nets) e, (ap (λ (x : Kinds). x.p) e, ap (λ (x : Kinds). x.n) e)))
    (Decides-and _ _ (Decides-eqb a.nets b.nets) (Decides-and _ _ (pointwise_decides kind_decides a.p b.p) (pointwise_decides kind_decides a.n b.n)))
