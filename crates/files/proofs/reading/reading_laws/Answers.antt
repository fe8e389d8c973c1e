use Rattle.files.proofs.Firsts.{refused_first}
use Rattle.files.proofs.Laws.{reads_back, only_written, reads_exactly, one_reading}
use Rattle.files.proofs.reading.reading_laws.Goals as goal

pub returns : goal.returns
returns c = record { back = reads_back; only = only_written; exact = reads_exactly; one = one_reading; first = refused_first }
