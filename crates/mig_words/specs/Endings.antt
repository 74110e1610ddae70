-- The ending that an error of the reader of the three files is.
use Rattle.mig_csv.specs.declared.errors.InputError.{InputError}
use Rattle.mig_csv.specs.declared.errors.InputError.TheVariants as error
use Rattle.mig_words.specs.declared.endings.CommandError.{CommandError}
use Rattle.mig_words.specs.declared.endings.CommandError.TheVariants.{Found, Memory}
use Rattle.mig_words.specs.declared.endings.InputRefusal.TheVariants.{Refused}

-- the ending of an error
abbrev pub error_of : InputError → CommandError
error_of (error.Refused file row why) = Found (Refused file row why)
error_of error.Memory = Memory
