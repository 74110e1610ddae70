-- What a crash leaves of files in memory.
use Rattle.mig_calls.proofs.Common.{Bool, Byte, Crashed, FileMemory, FileMoment, FilePick, FilesMoment, FitsFile, FitsOne, IsSettledAt, IsTrue, List, MayHold, MayLeaveFiles, Place, [], after_step, ap, cond, files_after}
use Rattle.mig_calls.proofs.Common.{cond-false, false, files_state, first_or, inl, inr, left_file, mem_is_state, picked_byte, reads_of, subst, sym, takes_old, true, ℕ, ◌++◌, ◌∙◌, ◌∷◌, ◌≡◌}
use Rattle.mig_calls.proofs.Disks.{after-push}

-- what is left under a name may be left
fits_left : (pick : FilePick) (f : FileMoment) → MayHold f (λ i. picked_byte pick i (left_file pick f i))
fits_left pick f = at (takes_old pick) f.now f.olds
  where
    own : (file : ℕ → Byte) → FitsFile file (λ i. picked_byte pick i (file i))
    own file i calm = cond-false _ _ _ calm

    at : (old : Bool) (now : ℕ → Byte) (olds : List (ℕ → Byte)) → FitsOne (now ∷ olds) (λ i. picked_byte pick i (cond old (first_or now olds) now i))
    at true now [] = inl (own now)
    at true now (first ∷ olds) = inr (inl (own first))
    at false now olds = inl (own now)

module _ (x y : FileMemory) (pick : FilePick) (pushed : y.steps ≡ x.steps ++ Crashed pick ∷ []) where
  crashed_is : files_after y.steps ≡ after_step (files_after x.steps) (Crashed pick)
  crashed_is = ap files_after pushed ∙ after-push x.steps (Crashed pick)

  pub crash_picked : (place : Place) (i : ℕ) → (files_state y).reads place i ≡ picked_byte pick i (left_file pick ((files_after x.steps).files place) i)
  crash_picked place i = ap (λ (m : FilesMoment). reads_of m place i) crashed_is

  pub crash_left : (files_state x).may_leave (files_state y).reads
  crash_left = subst (λ (m : FilesMoment). MayLeaveFiles (files_after x.steps) (reads_of m)) (sym crashed_is) (λ place. fits_left pick ((files_after x.steps).files place))

  pub crash_named : IsTrue (files_state y).named
  crash_named = ap (λ (m : FilesMoment). m.named) crashed_is

  pub crash_flushed : (place : Place) → IsTrue ((files_state y).flushed place)
  crash_flushed place = ap (λ (m : FilesMoment). (m.files place).flushed) crashed_is

  pub crash_settled : IsTrue y.usable → (place : Place) → IsSettledAt (files_state y) place
  crash_settled usable place = (mem_is_state y).settled usable crash_named place (crash_flushed place)
