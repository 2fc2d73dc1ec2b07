-- Lists whose items are written at their places.
use Rattle.std.proofs.Common.{ℕ, zero, suc, ◌≡◌, ◌++◌, List, [], ◌∷◌, length, take, drop, refl, sym, arith, take_all, append-nil}
use Rattle.cell_num.specs.Lists.{overwritten}

-- the items of a vector, of which so many are in use
pub items_overwritten : {X : Type 0} (len : ℕ) (items now w : List X) → items ≡ now → len ≡ length now → take len (w ++ drop (length w) items) ≡ overwritten now w
items_overwritten len items now w same count = cc

drop_all : {X : Type 0} (n : ℕ) (xs : List X) → n ≡ length xs → drop n xs ≡ []
drop_all zero [] e = refl
drop_all zero (x ∷ xs) e = absurd (omega (arith, e))
drop_all (suc n) [] e = refl
drop_all (suc n) (x ∷ xs) e = drop_all n xs (omega (arith, e))

-- what is written is as long as what stood there: then it stands there
pub overwritten_whole : {X : Type 0} (old new : List X) → length new ≡ length old → overwritten old new ≡ new
overwritten_whole old new e = rw (drop_all (length new) old e, append-nil new, sym e) (take_all (length new) new (omega arith))
