-- One put, for which there is room.
use Rattle.std.proofs.Common.{refl}
use Rattle.texts.proofs.Paging.{put-wrote}
use Rattle.desk.proofs.report.Printer.put_word.Goals as goal

pub returns : goal.returns
returns c = record { same_page = refl; wrote = put-wrote c.requires (c.put_word-self.ensures.place, c.put_word-self.ensures.bytes) }
