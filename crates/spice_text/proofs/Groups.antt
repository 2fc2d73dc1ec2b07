-- The reader's state and the lines behind it.
use Rattle.std.proofs.Common.{ℕ, length, ◌≡◌, ◌+◌, List, [], ◌∷◌, ◌++◌, true, false, Option, Some, None, Result, Ok, Err, refl, ap, append_assoc, arith, inl, inr}
use Rattle.std.proofs.lemmas.List.{append-nil}
use Rattle.std.proofs.lemmas.Bool.{cases_Bool, ne_eqb}
use Rattle.spice_text.specs.declared.logical.Line.{Line}
use Rattle.spice_text.specs.declared.logical.TextFault.{TextFault}
use Rattle.spice_text.specs.declared.logical.TextFault.TheVariants as fault
use Rattle.spice_text.specs.Physical.{physical, without_comment, without_blanks_in_front, is_refused}
use Rattle.spice_text.specs.Words.{words_of}
use Rattle.spice_text.specs.Logical.{Group, grouped, group, then_group, line_of, lines_of, tells_directions, with_comment, split_of}
use Rattle.spice_text.specs.Reader.{Open, with_info, closed, extended, finish, finished}

pub went_on : (more : List ℕ) (n : ℕ) (line : List ℕ) (done : List Line) (last : Option Open) (behind : List Line) (g : Group) → without_blanks_in_front line ≡ 43 ∷ more → finish done (extended more last) behind g ≡ finish done last behind (grouped n line g)
went_on more n line done None behind g e = rw e refl
went_on more n line done (Some o) behind g e = rw e (ap (λ (t : List ℕ). done ++ line_of o.number t ∷ (behind ++ g.lines)) (append_assoc o.text (32 ∷ more) g.front))

pub began : (n b : ℕ) (body line : List ℕ) (done : List Line) (last : Option Open) (behind : List Line) (g : Group) → without_blanks_in_front line ≡ b ∷ body → (b ≡ 42 → ⊥) → (b ≡ 43 → ⊥) → finish (closed done last behind) (Some (record { number = n; text = line })) [] g ≡ finish done last behind (grouped n line g)
began n b body line done None behind g e star plus = rw (e, ne_eqb b 42 star, ne_eqb b 43 plus) (append_assoc done behind (line_of n (line ++ g.front) ∷ g.lines))
began n b body line done (Some o) behind g e star plus = rw (e, ne_eqb b 42 star, ne_eqb b 43 plus, append-nil o.text) (append_assoc done (line_of o.number o.text ∷ behind) (line_of n (line ++ g.front) ∷ g.lines))

pub skipped : (n : ℕ) (line : List ℕ) (done : List Line) (last : Option Open) (behind : List Line) (g : Group) → without_blanks_in_front line ≡ [] → finish done last behind g ≡ finish done last behind (grouped n line g)
skipped n line done last behind g e = rw e refl

behind_it : (n : ℕ) (words : List (List ℕ)) (done : List Line) (last : Option Open) (behind : List Line) (g : Group) → finish done last (with_info n words behind) g ≡ finish done last behind (with_comment n words g)
behind_it n words done last behind g = elim (cases_Bool (tells_directions words)) [
  | inl is ↦ rw is (put last)
  | inr other ↦ rw other refl
]
  where
    put : (last : Option Open) → finish done last (behind ++ record { number = n; info = true; words = words } ∷ []) g ≡ finish done last behind (record { front = g.front; lines = record { number = n; info = true; words = words } ∷ g.lines })
    put None = ap (λ (ls : List Line). done ++ ls) (append_assoc behind (record { number = n; info = true; words = words } ∷ []) g.lines)
    put (Some o) = ap (λ (ls : List Line). done ++ line_of o.number (o.text ++ g.front) ∷ ls) (append_assoc behind (record { number = n; info = true; words = words } ∷ []) g.lines)

pub commented : (n : ℕ) (body line : List ℕ) (done : List Line) (last : Option Open) (behind : List Line) (g : Group) → without_blanks_in_front line ≡ 42 ∷ body → finish done last (with_info n (words_of line) behind) g ≡ finish done last behind (grouped n line g)
commented n body line done last behind g e = rw e (behind_it n (words_of line) done last behind g)

pub step_all : (n : ℕ) (line : List ℕ) (done new_done : List Line) (last new : Option Open) (behind new_behind : List Line) (r : Result Group TextFault) → ((g : Group) → finish new_done new new_behind g ≡ finish done last behind (grouped n line g)) → finished new_done new new_behind r ≡ finished done last behind (then_group n line r)
step_all n line done new_done last new behind new_behind (Ok g) same = ap (λ (ls : List Line). Ok ls) (same g)
step_all n line done new_done last new behind new_behind (Err e) same = refl

pub is_taken : (rest line after : List ℕ) (n : ℕ) (done new_done : List Line) (last new : Option Open) (behind new_behind : List Line) → physical rest ≡ line ∷ physical after → is_refused (without_comment true line) ≡ false → ((g : Group) → finish new_done new new_behind g ≡ finish done last behind (grouped n (without_comment true line) g)) → finished new_done new new_behind (group (n + 1) (physical after)) ≡ finished done last behind (group n (physical rest))
is_taken rest line after n done new_done last new behind new_behind e kept same = rw (e, kept) (step_all n (without_comment true line) done new_done last new behind new_behind (group (n + 1) (physical after)) same)

pub is_refused_line : (rest line after : List ℕ) (n : ℕ) (done : List Line) (last : Option Open) (behind : List Line) → physical rest ≡ line ∷ physical after → is_refused (without_comment true line) ≡ true → finished done last behind (group n (physical rest)) ≡ Err (fault.NotAscii n)
is_refused_line rest line after n done last behind e kept = rw (e, kept) refl

pub is_done : (rest : List ℕ) (n : ℕ) (done : List Line) (last : Option Open) (behind : List Line) → length rest ≡ 0 → finished done last behind (group n (physical rest)) ≡ Ok (closed done last behind)
unfolding physical
is_done [] n done None behind e = rw (append-nil behind) refl
is_done [] n done (Some o) behind e = rw (append-nil o.text, append-nil behind) refl
is_done (b ∷ bs) n done last behind e = absurd (omega (arith, e))

pub starts : (bytes : List ℕ) → finished [] None [] (group 1 (physical bytes)) ≡ split_of bytes
starts bytes = as_lines (group 1 (physical bytes))
  where
    as_lines : (r : Result Group TextFault) → finished [] None [] r ≡ lines_of r
    as_lines (Ok g) = refl
    as_lines (Err e) = refl

-- ---- no line wants for memory

never_then : (n : ℕ) (line : List ℕ) (r : Result Group TextFault) → (r ≡ Err fault.NoMemory → ⊥) → then_group n line r ≡ Err fault.NoMemory → ⊥
never_then n line (Ok g) first h = cc
never_then n line (Err e) first h = first h

never_group : (n : ℕ) (lines : List (List ℕ)) → group n lines ≡ Err fault.NoMemory → ⊥
never_group n [] h = cc
never_group n (line ∷ lines) h =
    elim (cases_Bool (is_refused (without_comment true line))) [
      | inl bad ↦ let e : ◌≡◌ {A = Result Group TextFault} (Err (fault.NotAscii n)) (Err fault.NoMemory) = rw bad at h in cc
      | inr kept ↦ let e : then_group n (without_comment true line) (group (n + 1) lines) ≡ Err fault.NoMemory = rw kept at h in never_then n (without_comment true line) (group (n + 1) lines) (never_group (n + 1) lines) e
    ]

pub never_split : (bytes : List ℕ) → split_of bytes ≡ Err fault.NoMemory → ⊥
never_split bytes h = of_lines (group 1 (physical bytes)) (never_group 1 (physical bytes)) h
  where
    of_lines : (r : Result Group TextFault) → (r ≡ Err fault.NoMemory → ⊥) → lines_of r ≡ Err fault.NoMemory → ⊥
    of_lines (Ok g) first h = cc
    of_lines (Err e) first h = first cc

pub ruleset line_rules = (went_on, began, commented, skipped)

pub ruleset split_rules = (is_refused_line, is_taken, is_done, starts, never_split)
