-- What `rehearse` reads and prints.
pub use Rattle.mig_commands.specs.rehearse.Texts.{IsRehearsed, case_in}
