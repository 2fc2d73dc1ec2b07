use Rattle.std.proofs.Common.{◌≡◌, refl, subst}
use Rattle.std.specs.BTreeMap.{get_by_text}
use Rattle.cell_io.specs.Desk.{Files, AppendedIn}
use Rattle.cell_io.specs.Mem.{made_files}
use Rattle.cell_io.proofs.mem.MemDeskDesk.append.Goals as goal

pub returns-in-Ok-clause-made : goal.returns-in-Ok-clause-made
returns-in-Ok-clause-made c =
    let same : made_files c.fails.new.self ≡ made_files c.args.self.now = rw c.fails.ensures.number refl in
    subst
    (λ (files : Files). AppendedIn c.args.name.now c.args.part.now c.of-count.result files (get_by_text c.append_to.new.files))
    same
    c.in-Ok.ensures.ok
