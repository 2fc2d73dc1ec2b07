-- The text of a certificate: ASCII lines, each ended by LF; numbers are decimal, and one space parts the words.
use Rattle.std.specs.Prelude.{ℕ, List, ◌++◌, flat_map, codes, decimal}
use Rattle.cell_num.specs.declared.net.NetNo.{NetNo}
use Rattle.bound_log.specs.Text.{best_text, last_line}
use Rattle.trail_log.specs.Spelling.{classes_text, nets_text, nodes_text}
use Rattle.trail_log.specs.declared.trails.LemmaLine.{LemmaLine}
use Rattle.trail_log.specs.declared.trails.TrailCertificate.{TrailCertificate}

-- the first line, without its line feed
abbrev pub version_line : List ℕ
version_line = codes "cellgen-trails 1"

abbrev pub head_lines : List ℕ → List ℕ
head_lines name = codes "cellgen-trails 1\ncell " ++ name ++ codes "\n"

abbrev pub fill_line : List NetNo → List ℕ
fill_line nets = codes "fill " ++ nets_text nets ++ codes "\n"

abbrev pub order_line : List NetNo → List ℕ
order_line nets = codes "order " ++ nets_text nets ++ codes "\n"

-- bound, gates done, odd nodes, no free ends, classes
abbrev pub lemma_line : LemmaLine → List ℕ
lemma_line lemma =
    codes "lemma "
    ++ decimal lemma.bound
    ++ codes " "
    ++ decimal lemma.done
    ++ codes " "
    ++ nodes_text lemma.odd
    ++ codes " - "
    ++ classes_text lemma.classes
    ++ codes "\n"

-- gates filled, the order, lemmas, then gaps and columns as a log has them, or `open`, and `end`
abbrev pub trails_text : List ℕ → TrailCertificate → List ℕ
trails_text name trails =
    head_lines name
    ++ fill_line trails.fill
    ++ order_line trails.order
    ++ flat_map lemma_line trails.lemmas
    ++ best_text trails.best
    ++ last_line
