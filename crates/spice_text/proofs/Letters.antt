-- Letters in either case.
use Rattle.std.proofs.Common.{ℕ, ◌≡◌, Bool, List, length, take, map, sym, ap, ◌∙◌, min}
use Rattle.std.specs.Char.{to_ascii_lowercase}
use Rattle.std.specs.Bool.{Decides}
use Rattle.std.proofs.lemmas.Bool.Decides.{same_from_decides}
use Rattle.std.proofs.lemmas.Slice.Eq.{bytes_eq-Decides}
use Rattle.std.proofs.lemmas.List.{take_min}
use Rattle.spice_text.specs.Numbers.{begins_with_letters}

pub begins_is : (r : Bool) (n : ℕ) (front text : List ℕ) → n ≡ min (length front) (length text) → Decides r (map to_ascii_lowercase (take n text) ≡ map to_ascii_lowercase front) → r ≡ begins_with_letters front text
begins_is r n front text at test =
    let same : take n text ≡ take (length front) text = ap (λ (k : ℕ). take k text) at ∙ take_min (length front) text in
    same_from_decides r (begins_with_letters front text) test (rw (sym same) (bytes_eq-Decides (map to_ascii_lowercase (take n text)) (map to_ascii_lowercase front)))
