-- Numbers that pass the test are lawful. Assumes nothing.
use Rattle.std.proofs.Common.{rules}
use Rattle.geometry.proofs.Sheets.{lawful_known}
use Rattle.sheet.proofs.opening.measure_areas.Goals as goal

pub heap_length-requires : goal.heap_length-requires
heap_length-requires c = (lawful_known c.args.g (search rules)).sizes

pub records_length-requires : goal.records_length-requires
records_length-requires c = (lawful_known c.args.g (search rules)).sizes
