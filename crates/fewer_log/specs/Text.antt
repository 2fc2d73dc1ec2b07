-- The text of a certificate: that of its lemmas and its row. Where fingers are left out, two lines are before it.
use Rattle.std.specs.Prelude.{ℕ, List, [], ◌++◌, Option, Some, None, codes}
use Rattle.cell_num.specs.declared.finger.Row.{Row}
use Rattle.cell_num.specs.declared.finger.Row.TheVariants.{P, N}
use Rattle.trail_log.specs.Spelling.{nets_text}
use Rattle.pool_log.specs.Text.{pool_text}
use Rattle.fewer_fingers.specs.declared.fewer.LeftOut.{LeftOut}
use Rattle.fewer_log.specs.declared.certificate.FewerCertificate.{FewerCertificate}

-- the first line where fingers are left out, without its line feed
abbrev pub version_line : List ℕ
version_line = codes "cellgen-trails 3"

abbrev pub row_text : Row → List ℕ
row_text P = codes "P"
row_text N = codes "N"

-- the row and the gates of the fingers that are left out
abbrev pub out_line : LeftOut → List ℕ
out_line out = codes "without " ++ row_text out.row ++ codes " " ++ nets_text out.gates ++ codes "\n"

abbrev pub out_lines : Option LeftOut → List ℕ
out_lines None = []
out_lines (Some out) = version_line ++ codes "\n" ++ out_line out

abbrev pub fewer_text : List ℕ → FewerCertificate → List ℕ
fewer_text name c = out_lines c.out ++ pool_text name c.pools
