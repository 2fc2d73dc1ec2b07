-- The text of a certificate by an order of gates: ASCII lines, each ended by LF. How a lemma is spelled is given by
-- the words of its line.
use Rattle.std.specs.Prelude.{ℕ, List, ◌∷◌, ◌++◌, flat_map, codes}
use Rattle.std.specs.List.{join_with_byte}
use Rattle.bound_log.specs.Text.{best_text, last_line}
use Rattle.trail_log.specs.Text.{fill_line, order_line}
use Rattle.order_log.specs.declared.certificate.OrderCertificate.{OrderCertificate}

-- the first two lines, of the version and the name
abbrev pub head_lines : List ℕ → List ℕ → List ℕ
head_lines version name = version ++ codes "\ncell " ++ name ++ codes "\n"

-- the word `lemma` and the words of the lemma, one space between each two
unfoldable pub lemma_line : {L : Type 0} → (L → List (List ℕ)) → L → List ℕ
lemma_line words lemma = join_with_byte 32 (codes "lemma" ∷ words lemma) ++ codes "\n"

-- gates filled, the order, lemmas, then gaps and columns as a log has them, or `open`, and `end`
abbrev pub certificate_text : {L : Type 0} → (L → List (List ℕ)) → List ℕ → List ℕ → OrderCertificate L → List ℕ
certificate_text words version name c =
    head_lines version name
    ++ fill_line c.fill
    ++ order_line c.order
    ++ flat_map (lemma_line words) c.lemmas
    ++ best_text c.best
    ++ last_line
