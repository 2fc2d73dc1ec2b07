-- The lemmas that functions name, by function.
use Rattle.layout_commands.proofs.Extracted.{none_listed, some_listed, unchecked_answers}

pub ruleset drawing_answer_rules = (unchecked_answers, none_listed, some_listed)
