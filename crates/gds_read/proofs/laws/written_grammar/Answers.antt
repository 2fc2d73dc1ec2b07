use Rattle.gds_read.proofs.Words.{written_word, accepted_word}
use Rattle.gds_read.proofs.LibraryWords.{library_word}
use Rattle.gds_read.proofs.Ends.{no_dead_end}
use Rattle.gds_read.proofs.laws.written_grammar.Goals as goal

pub returns-clause-written : goal.returns-clause-written
returns-clause-written c = written_word

pub returns-clause-accepted : goal.returns-clause-accepted
returns-clause-accepted c = accepted_word

pub returns-clause-libraries : goal.returns-clause-libraries
returns-clause-libraries c = library_word

pub returns-clause-no_dead_end : goal.returns-clause-no_dead_end
returns-clause-no_dead_end c = no_dead_end
