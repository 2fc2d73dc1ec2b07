-- The text of a certificate with the balances of pools: ASCII lines, each ended by LF; numbers are decimal, and one
-- space parts the words.
use Rattle.std.specs.Prelude.{ℕ, List, [], ◌∷◌, ◌++◌, map, codes, decimal, Result}
use Rattle.std.specs.List.{join_with_byte}
use Rattle.cell_num.specs.declared.finger.Row.TheVariants.{P, N}
use Rattle.row_state.specs.declared.kind.Kinds.{Kinds}
use Rattle.bound_log.specs.declared.fault.LogFault.{LogFault}
use Rattle.trail_log.specs.Spelling.{flag_text, list_text, node_text, nodes_text}
use Rattle.order_log.specs.declared.certificate.OrderCertificate.{OrderCertificate}
use Rattle.order_log.specs.Reading.{certificate_of}
use Rattle.order_log.specs.Text.{certificate_text}
use Rattle.pool_log.specs.declared.balance.PoolBalance.{PoolBalance}
use Rattle.pool_log.specs.declared.balance.Surplus.{Surplus}
use Rattle.pool_log.specs.declared.balance.Surplus.TheVariants as surplus
use Rattle.pool_log.specs.declared.class.PlaceClass.{PlaceClass}
use Rattle.pool_log.specs.declared.lemma.PoolLine.{PoolLine}
use Rattle.pool_log.specs.declared.place.ListedPlace.{ListedPlace}
use Rattle.pool_log.specs.declared.place.ListedPlace.TheVariants as place
use Rattle.pool_log.specs.Line.{lemma_in}

-- `+` and the nodes that wait, or `-` and the free ends
abbrev pub surplus_text : Surplus → List ℕ
surplus_text (surplus.Waiting nodes) = 43 ∷ decimal nodes
surplus_text (surplus.Free ends) = 45 ∷ decimal ends

abbrev pub balance_text : PoolBalance → List ℕ
balance_text balance = decimal balance.net.0 ++ surplus_text balance.surplus

-- a star for the net in the other row of a pool
abbrev pub place_text : ListedPlace → List ℕ
place_text (place.Node node) = node_text node
place_text (place.Pool P net) = decimal net.0 ++ codes ".*"
place_text (place.Pool N net) = codes "*." ++ decimal net.0

-- places with `+` (byte 43) between, and `!` after those of a flagged class
abbrev pub class_text : PlaceClass → List ℕ
class_text class = join_with_byte 43 (map place_text class.places) ++ flag_text class.flagged

-- lists with commas (byte 44)
abbrev pub balances_text : List PoolBalance → List ℕ
balances_text balances = list_text 44 (map balance_text balances)

abbrev pub classes_text : List PlaceClass → List ℕ
classes_text classes = list_text 44 (map class_text classes)

-- bound, gates done, odd nodes, balances, classes
unfoldable pub lemma_words : PoolLine → List (List ℕ)
lemma_words lemma =
    decimal lemma.bound ∷ decimal lemma.done ∷ nodes_text lemma.odd ∷ balances_text lemma.balances
    ∷ classes_text lemma.classes ∷ []

-- the first line, without its line feed
abbrev pub version_line : List ℕ
version_line = codes "cellgen-trails 2"

abbrev pub pool_text : List ℕ → OrderCertificate PoolLine → List ℕ
pool_text name pools = certificate_text lemma_words version_line name pools

-- the certificate of the bytes, or their first fault
abbrev pub pools_of : List ℕ → List ℕ → Kinds → Result (OrderCertificate PoolLine) LogFault
pools_of bytes name k = certificate_of (lemma_in k.nets) version_line bytes name k
