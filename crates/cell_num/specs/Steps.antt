-- Steps that may each be refused: the first refusal counts.
use Rattle.std.specs.Prelude.{Bool, true, false, Option, Some, None, Result, Ok, Err}

infixl 10 ◌>>=◌
abbrev pub ◌>>=◌ : {A B E : Type 0} → Result A E → (A → Result B E) → Result B E
(Ok x) >>= f = f x
(Err e) >>= f = Err e

-- refused, unless a condition holds
abbrev pub require : {E : Type 0} → Bool → E → Result (Unit {0}) E
require true f = Ok tt
require false f = Err f

-- refused, unless something is there
abbrev pub or_fault : {A E : Type 0} → Option A → E → Result A E
or_fault (Some a) f = Ok a
or_fault None f = Err f
