-- The first generated cell, worked out.
use Rattle.std.specs.Prelude.{◌≡◌, [], ◌∷◌, codes}
use Rattle.std.proofs.Common.{refl}
use Rattle.std.specs.Fmt.{digits}
use Rattle.bench_command.specs.Draws.{draw}
use Rattle.bench_command.specs.declared.stage.Stage.TheVariants.{Inverter, Nand2}
use Rattle.bench_command.specs.Cells.{stages_of}
use Rattle.bench_command.specs.Text.{bench_text, chain_text, head_text, model_text, transistor_text, word_text}

first_draw : draw 0 0 ≡ 0
first_draw = refl

second_draw : draw 0 1 ≡ 21468
second_draw = refl

third_draw : draw 0 2 ≡ 9988
third_draw = refl

are_stages : stages_of 0 ≡ Inverter ∷ Nand2 ∷ []
are_stages = refl

is_text : bench_text 1 ≡ codes ".SUBCKT c0 i0 s1 o1 vdd gnd\nM0 o0 i0 vdd vdd p W=3u L=0.6u\nM1 o0 i0 gnd gnd n W=1.5u L=0.6u\nM2 o1 o0 vdd vdd p W=3u L=0.6u\nM3 o1 s1 vdd vdd p W=3u L=0.6u\nM4 o1 o0 t1 gnd n W=1.5u L=0.6u\nM5 t1 s1 gnd gnd n W=1.5u L=0.6u\n.ENDS\n"
unfolding chain_text digits head_text model_text transistor_text word_text
is_text = refl
