-- The names of other crates that the definitions of this one cite, passed on from one place. Declares nothing.
pub use Rattle.hex.specs.Hex.{encode_lower}
pub use Rattle.mig_base.specs.Arrivals.{IsArrived, IsHaltSafe, IsHalted, IsReached}
pub use Rattle.mig_base.specs.Bounding.{bound_value, quotient}
pub use Rattle.mig_base.specs.CertLines.{CertLine}
pub use Rattle.mig_base.specs.FaultCounts.{Rose}
pub use Rattle.mig_base.specs.Flights.{AreFlights, IsTargetOf}
pub use Rattle.mig_base.specs.Images.{Image, SameBut}
pub use Rattle.mig_base.specs.InputLists.{InputLists, no_spot}
pub use Rattle.mig_base.specs.JobCells.{IsHaltCell, IsJobCell, SettlesTo, Tells}
pub use Rattle.mig_base.specs.Journals.{count_of, is_armed}
pub use Rattle.mig_base.specs.Layouts.{At, IsListOf}
pub use Rattle.mig_base.specs.PlanLines.{PlanLine}
pub use Rattle.mig_base.specs.Readiness.{IsReady, shifts_of}
pub use Rattle.mig_base.specs.Refusals.{Accepted, AcceptedTight, RefusedAs, RefusedTightAs}
pub use Rattle.mig_base.specs.RoundEvents.{Adds, BeginsRun, IsRun}
pub use Rattle.mig_base.specs.Rows.{ThreeFiles}
pub use Rattle.mig_base.specs.Running.{Runs}
pub use Rattle.mig_base.specs.Safety.{Contents, IsSafe, IsSafeAfter, IsSound}
pub use Rattle.mig_base.specs.Slots.{HasHeader, IsListedCell, item_cell}
pub use Rattle.mig_base.specs.Stores.{Changes, IsLeftBut, IsMoving, IsSettled, LeavesOnly, Looks, State, flights}
pub use Rattle.mig_base.specs.Tasks.{Task}
pub use Rattle.mig_base.specs.Texts.{CertText, PlanText, disk_name, item_name, text_of_lines, words}
pub use Rattle.mig_base.specs.TightPlans.{HasNoPlan}
pub use Rattle.mig_base.specs.Transfers.{moves, transfer_graph}
pub use Rattle.mig_base.specs.declared.cells.Cell.{Cell}
pub use Rattle.mig_base.specs.declared.cells.Cell.TheVariants.{Gate, Head}
pub use Rattle.mig_base.specs.declared.cells.Event.{Event}
pub use Rattle.mig_base.specs.declared.certs.Cert.{Cert}
pub use Rattle.mig_base.specs.declared.faults.FileKind.{FileKind}
pub use Rattle.mig_base.specs.declared.faults.Why.{Why}
pub use Rattle.mig_base.specs.declared.ids.Shift.{Shift}
pub use Rattle.mig_base.specs.declared.ids.Spot.{Spot}
pub use Rattle.mig_base.specs.declared.limits.TheConstants.{MAX_FILE_BYTES}
pub use Rattle.mig_best.specs.Certified.{IsCertified}
pub use Rattle.mig_csv.specs.Listings.{IsListing, ListingRefusedAs}
pub use Rattle.mig_drill.specs.Drills.{drill_text}
pub use Rattle.mig_drill.specs.declared.limits.TheConstants.{MAX_DRILL_SHIFTS}
pub use Rattle.mig_io.specs.Files.{ChangedOnly, Files, FolderState, OthersStay, Saves, file}
pub use Rattle.mig_io.specs.Held.{Extends, ExtendsInPart, SinkState}
pub use Rattle.mig_lanes.specs.LaneSteps.{IsPart, later_rounds}
pub use Rattle.mig_lanes.specs.Runs.{Carries, Finishes, HasFound, KeepsHalting}
pub use Rattle.mig_live.specs.Orders.{all_steps}
pub use Rattle.mig_live.specs.Replies.{replies}
pub use Rattle.mig_live.specs.Scripts.{ScriptText}
pub use Rattle.mig_live.specs.Sessions.{marks_by, steps_after}
pub use Rattle.mig_live.specs.declared.orders.Order.{Order}
pub use Rattle.mig_mover.specs.Fillings.{HasMade, IsFillRefusal, IsFillable}
pub use Rattle.mig_mover.specs.Halts.{IsClosingCell}
pub use Rattle.mig_mover.specs.Moves.{IsReadyIdle, IsRefusal, Keeps, Lands, MayBeHalting, Settles, StaysArmed}
pub use Rattle.mig_mover.specs.declared.faults.MoveFault.{MoveFault}
pub use Rattle.mig_mover.specs.declared.faults.MoveFault.TheVariants.{NotStarted, OtherPlan, Started}
pub use Rattle.mig_mover.specs.declared.sights.Sight.{Sight}
pub use Rattle.mig_words.specs.Outcomes.{Done, Outcome, Refusal, SinkFault, StoreFault, Unlisted, code, fault_outcome, joined, text_of}
pub use Rattle.mig_words.specs.Words.{After, Audit, Check, Drain, Drill, Fill, Form, Halt, IsListed, Live, Move, Names, Plan, PlanTight, Rehearse, Resume, TaskNames, roomy}
pub use Rattle.mig_words.specs.declared.endings.CommandError.{CommandError}
pub use Rattle.mig_words.specs.declared.endings.InputRefusal.{InputRefusal}
pub use Rattle.mig_words.specs.declared.endings.InputRefusal.TheVariants.{NoDisk, NoFreeSlot, NoRoom, NotSpelled, Refused, TooLarge, TooMany}
pub use Rattle.mig_words.specs.declared.words.Reader.{Reader}
pub use Rattle.mig_words.specs.declared.words.Reader.TheVariants.{Roomy, Tight}
pub use Rattle.sha2.specs.Sha256.{sha256}
pub use Rattle.std.specs.Fmt.{decimal}
pub use Rattle.std.specs.Option.{IfSome, IsSomeAnd}
