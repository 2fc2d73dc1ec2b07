-- Transistors, line after line.
use Rattle.std.proofs.Common.{ℕ, suc, ◌≡◌, ◌+◌, ◌<◌, length, get_or, drop-cons, add-one, List, ◌∷◌, drop, inl, inr, refl, sym, ap, ◌∙◌}
use Rattle.std.specs.Prelude.{Result, Err}
use Rattle.std.proofs.lemmas.Bool.{cases_Bool}
use Rattle.spice_text.specs.declared.logical.Line.{Line}
use Rattle.tech_file.specs.Technology.{Technology}
use Rattle.spice_net.specs.declared.fault.SpiceFault.{SpiceFault}
use Rattle.spice_net.specs.Transistors.{Transistor}
use Rattle.spice_net.specs.Chosen.{without_comments}
use Rattle.spice_net.specs.Transistors.{transistors_of}
use Rattle.spice_net.specs.Reader.{with_shown, in_front}

pub next_line : (lines : List Line) (i : ℕ) (line : Line) → i < length lines → line ≡ get_or lines i line → drop i lines ≡ line ∷ drop (i + 1) lines
next_line lines i line lt is = drop-cons lines i line lt ∙ (ap (λ (l : Line). l ∷ drop (suc i) lines) (sym is) ∙ ap (λ (n : ℕ). line ∷ drop n lines) (sym (add-one i)))

line_in_front : (tech : Technology) (line : Line) (lines : List Line) → transistors_of tech (without_comments (line ∷ lines)) ≡ with_shown tech line (transistors_of tech (without_comments lines))
line_in_front tech line lines = elim (cases_Bool line.info) [
  | inl comment ↦ rw comment refl
  | inr shown ↦ rw shown refl
]

pub line_refused : (tech : Technology) (lines : List Line) (i : ℕ) (line : Line) (done : List Transistor) (f : SpiceFault) → drop i lines ≡ line ∷ drop (i + 1) lines → ((rest : Result (List Transistor) SpiceFault) → with_shown tech line rest ≡ Err f) → in_front done (transistors_of tech (without_comments (drop i lines))) ≡ transistors_of tech (without_comments lines) → transistors_of tech (without_comments lines) ≡ Err f
line_refused tech lines i line done f e refused inv =
    sym inv ∙ (ap (λ (ls : List Line). in_front done (transistors_of tech (without_comments ls))) e ∙ ap (λ (r : Result (List Transistor) SpiceFault). in_front done r) (line_in_front tech line (drop (i + 1) lines) ∙ refused (transistors_of tech (without_comments (drop (i + 1) lines)))))
