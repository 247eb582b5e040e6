-- One put, for which there is room.
use Rattle.std.proofs.Common.{refl}
use Rattle.texts.proofs.Paging.{put-wrote}
use Rattle.desk.proofs.report.Printer.put_number.Goals as goal

pub returns : goal.returns
returns c = record { same_page = refl; wrote = put-wrote c.requires (c.put_number_line-self.ensures.place, c.put_number_line-self.ensures.bytes) }
