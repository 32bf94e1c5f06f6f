use Rattle.sql_parser.proofs.Endings.{whole_ok, whole_wrong, whole_deep}
use Rattle.sql_parser.proofs.parse.read.Goals as goal

pub returns-in-Ok : goal.returns-in-Ok
returns-in-Ok c = whole_ok _ _ _ c.in-Ok.ensures

pub returns-in-Err-Wrong : goal.returns-in-Err-Wrong
returns-in-Err-Wrong c = (c.alone.new.at, whole_wrong _ _ c.in-Err-Wrong.field-0 c.in-Err-Wrong.field-0-is c.in-Err-Wrong.ensures, c.place.ensures)

pub returns-in-Err-Deep : goal.returns-in-Err-Deep
returns-in-Err-Deep c = (c.alone.new.at, whole_deep _ _ c.in-Err-Deep.field-0 c.in-Err-Deep.field-0-is c.in-Err-Deep.ensures)
