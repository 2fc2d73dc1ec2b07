-- The reader's own words, which its inner functions promise; no definition of the text needs them.
use Rattle.std.specs.Prelude.{ℕ, suc, ◌==◌, ◌&&◌, nat_le, Bool, true, List, [], ◌∷◌}
use Rattle.std.specs.Prelude.{◌++◌, Option, Some, None, Result, Ok, Err, if◌then◌else◌}
use Rattle.spice_text.specs.declared.logical.Line.{Line}
use Rattle.spice_text.specs.declared.logical.TextFault.{TextFault}
use Rattle.spice_text.specs.Physical.{begins_with}
use Rattle.spice_text.specs.Logical.{Group, line_of, tells_directions}

-- ---- physical lines

-- how many bytes stand before the first line feed
abbrev pub until_end : List ℕ → ℕ
until_end [] = 0
until_end (b ∷ bs) = if b == 10 then 0 else suc (until_end bs)

-- how many bytes the first line has, where it ends
abbrev pub end_of : List ℕ → ℕ
end_of [] = 0
end_of (b ∷ bs) = if b == 10 then 0 else if b == 13 && begins_with 10 bs then 0 else suc (end_of bs)

-- ---- logical lines: those that are done, the one that may go on, and the comments behind it

pub record Open : Type 0 where
  pub number : ℕ
  pub text : List ℕ

abbrev pub closed : List Line → Option Open → List Line → List Line
closed done None behind = done ++ behind
closed done (Some o) behind = done ++ line_of o.number o.text ∷ behind

abbrev pub with_info : ℕ → List (List ℕ) → List Line → List Line
with_info n words behind =
    if tells_directions words then behind ++ record { number = n; info = true; words = words } ∷ [] else behind

abbrev pub extended : List ℕ → Option Open → Option Open
extended more None = None
extended more (Some o) = Some (record { number = o.number; text = o.text ++ 32 ∷ more })

-- all lines, with those of the text that is not yet read
abbrev pub finish : List Line → Option Open → List Line → Group → List Line
finish done None behind g = done ++ (behind ++ g.lines)
finish done (Some o) behind g = done ++ line_of o.number (o.text ++ g.front) ∷ (behind ++ g.lines)

abbrev pub finished : List Line → Option Open → List Line → Result Group TextFault → Result (List Line) TextFault
finished done last behind (Ok g) = Ok (finish done last behind g)
finished done last behind (Err e) = Err e

-- ---- numbers

-- a digit that is no zero
abbrev pub is_significant : ℕ → Bool
is_significant b = nat_le 49 b && nat_le b 57
