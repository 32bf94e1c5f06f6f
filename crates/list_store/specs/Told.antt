-- What the store answers where only memory may be wanting.
use Rattle.std.specs.Prelude.{Result, Ok, Err}
use Rattle.std.specs.declared.alloc.AllocError.{AllocError}
use Rattle.store_api.specs.declared.answers.StoreAnswer.{StoreAnswer}
use Rattle.store_api.specs.declared.answers.StoreAnswer.TheVariants.{Memory}

abbrev pub as_told : {T : Type 0} → Result T AllocError → Result T StoreAnswer
as_told (Ok x) = Ok x
as_told (Err e) = Err Memory
