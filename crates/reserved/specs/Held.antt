-- What codes hold.
use Rattle.reserved.specs.declared.calls.Codes.TheInside.{Inside}
use Rattle.reserved.specs.declared.numbers.CodeNumbers.{CodeNumbers}

-- The fields of codes as plain numbers.
abbrev pub numbers_held : Inside → CodeNumbers
numbers_held codes = record {
  changeover = codes.changeover;
  load_transfer = codes.load_transfer;
  acknowledgement = codes.acknowledgement;
  pattern = codes.pattern;
}
