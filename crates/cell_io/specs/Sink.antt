-- Lists to whose end bytes are added.
use Rattle.std.specs.Prelude.{ℕ, ◌≡◌, List, [], ◌++◌}
use Rattle.std.proofs.Common.{append-nil, append_assoc, ap, sym, ◌∙◌}

pub adds_none : (a : List ℕ) → a ≡ a ++ []
adds_none a = sym (append-nil a)

pub adds_more : (a b c x y : List ℕ) → b ≡ a ++ x → c ≡ b ++ y → c ≡ a ++ (x ++ y)
adds_more a b c x y first second = second ∙ (ap (λ (l : List ℕ). l ++ y) first ∙ append_assoc a x y)
