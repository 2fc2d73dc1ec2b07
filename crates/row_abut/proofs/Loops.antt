-- A loop that adds a piece for each item of a list.
use Rattle.std.proofs.Common.{◌≡◌, ℕ, suc, ◌+◌, ◌<◌, List, ◌∷◌, ◌++◌, drop, length, get_or, arith, sym, ap, ◌∙◌}
use Rattle.std.proofs.lemmas.List.{append_assoc}
use lib.Seq.{drop-cons}

-- what is out and what is left to add make the whole, before an item and behind it
pub one_more : {X Y : Type 0} (F G : List X → List Y) (xs : List X) (i : ℕ) (x d : X) (piece out new whole : List Y) → i < length xs → x ≡ get_or xs i d → ((rest : List X) → F (x ∷ rest) ≡ piece ++ G rest) → new ≡ out ++ piece → out ++ F (drop i xs) ≡ whole → new ++ G (drop (i + 1) xs) ≡ whole
one_more F G xs i x d piece out new whole short is step made before =
    let next : i + 1 ≡ suc i = omega arith in
    let cut : drop i xs ≡ x ∷ drop (suc i) xs = drop-cons xs i d short ∙ ap (λ z. z ∷ drop (suc i) xs) (sym is) in
    ap (λ n. new ++ G (drop n xs)) next
    ∙ (ap (λ l. l ++ G (drop (suc i) xs)) made
    ∙ (append_assoc out piece (G (drop (suc i) xs))
    ∙ (ap (λ l. out ++ l) (sym (step (drop (suc i) xs)))
    ∙ (ap (λ l. out ++ F l) (sym cut) ∙ before))))
