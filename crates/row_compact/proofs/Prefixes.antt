-- What holds of the first elements of a list and of the next one.
use Rattle.std.proofs.Common.{ℕ, ◌+◌, ◌<◌, List, [], ◌∷◌, length, take, get_or, sym, subst, All}
use Rattle.std.proofs.lemmas.List.{take_more}
use Rattle.std.proofs.lemmas.List.Elements.{All-append}
use Rattle.cell_num.proofs.Lists.{all_one}

pub all_more : {X : Type 0} (P : X → Type 0) (xs : List X) (i : ℕ) (d : X) → i < length xs → All P (take i xs) → P (get_or xs i d) → All P (take (i + 1) xs)
all_more P xs i d short all here = subst (λ ys. All P ys) (sym (take_more xs i d short)) (All-append P (take i xs) (get_or xs i d ∷ []) all (all_one P (get_or xs i d) here))
