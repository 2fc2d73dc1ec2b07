-- Words after `make` that have no form.
use Rattle.std.proofs.Common.{◌≡◌, ◌<◌, List, [], ◌∷◌, None, String, length, refl, arith}
use Rattle.std.specs.declared.alloc.Global.{Global}
use Rattle.call_words.specs.Asked.{texts}
use Rattle.call_words.specs.Words.{make_of}

pub too_few : (words : List (String Global)) → length words < 4 → None ≡ make_of (texts words)
too_few [] few = refl
too_few (tech ∷ []) few = refl
too_few (tech ∷ spice ∷ []) few = refl
too_few (tech ∷ spice ∷ cell ∷ []) few = refl
too_few (tech ∷ spice ∷ cell ∷ out ∷ more) few = absurd (omega (arith, few))
