-- What steps make of the lists that are kept.
use Rattle.mig_calls.proofs.Common.{Back, Crashed, FileMoment, FilePick, FilesMoment, FilesStep, Front, IsDisk, List, Named, New, Old, Ones, Place}
use Rattle.mig_calls.proofs.Common.{SeenFile, [], after_step, ap, blank_files, files_after, crashed, fold-append, look, map, map-append, no_file}
use Rattle.mig_calls.proofs.Common.{on_file, place_of, refl, sym, with_name, ◌++◌, ◌∙◌, ◌∷◌, ◌≡◌}
use Rattle.mig_calls.proofs.FileLists.{look-map, places-map, look-push}

pub after-push : (steps : List FilesStep) (step : FilesStep) → files_after (steps ++ step ∷ []) ≡ after_step (files_after steps) step
after-push steps step = fold-append after_step blank_files steps (step ∷ [])

module _ (steps new : List FilesStep) (table : List Place) (seen after_all : List SeenFile) (is : IsDisk steps table seen) where
  -- all files changed
  all_changed : (step : FilesStep) (change : FileMoment → FileMoment) → change no_file ≡ no_file → (after_step (files_after steps) step).files ≡ (λ place. change ((files_after steps).files place))
      → after_all ≡ map (on_file change) seen → new ≡ steps ++ step ∷ [] → IsDisk new table after_all
  all_changed step change none files mapped pushed = record {
    places = is.places ∙ sym (places-map change seen) ∙ ap (map place_of) (sym mapped);
    shown = λ place.
        ap (λ (l : List SeenFile). look l place) mapped ∙ look-map change none seen place ∙ ap change (is.shown place)
        ∙ sym (ap (λ (f : Place → FileMoment). f place) files) ∙ ap (λ (m : FilesMoment). m.files place) (sym (ap files_after pushed ∙ after-push steps step));
  }

  pub all_named : after_all ≡ map (on_file with_name) seen → new ≡ steps ++ Named ∷ [] → IsDisk new table after_all
  all_named = all_changed Named with_name refl refl

  pub all_crashed : (pick : FilePick) → after_all ≡ map (on_file (crashed pick)) seen → new ≡ steps ++ Crashed pick ∷ [] → IsDisk new table after_all
  all_crashed pick = all_changed (Crashed pick) (crashed pick) (none pick) refl
    where
      none : (p : FilePick) → crashed p no_file ≡ no_file
      none Old = refl
      none New = refl
      none Front = refl
      none Back = refl
      none Ones = refl

-- a file that isn't there is kept
pub one_added : (steps : List FilesStep) (table more : List Place) (seen after_all : List SeenFile) (place : Place) → IsDisk steps table seen → more ≡ table ++ place ∷ []
    → after_all ≡ seen ++ record { place = place; file = no_file } ∷ [] → IsDisk steps more after_all
one_added steps table more seen after_all place is added pushed = record {
  places = added ∙ ap (λ (l : List Place). l ++ place ∷ []) is.places ∙ sym (ap (map place_of) pushed ∙ map-append place_of seen (record { place = place; file = no_file } ∷ []));
  shown = λ other. ap (λ (l : List SeenFile). look l other) pushed ∙ look-push seen place other ∙ is.shown other;
}
