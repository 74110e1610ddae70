-- What the steps of the reading say of two files.
use Rattle.mig_csv.proofs.Common.{All, AllZip, Disk, DiskId, DisksFault, FileKind, InputError, IsInput, IsListingRefusal, IsRefusalOf, IsSpotNamed, IsSpotOf, List, ListingFault, ThreeFiles}
use Rattle.mig_csv.proofs.Common.{InputLists, ListingRefusedAs, NowFault, Precedes, RefusedAs, Spot, Why, [], ap, disks_of, first, get_or, get_or-map, length, length-map, listed-IsInput, map}
use Rattle.mig_csv.proofs.Common.{own_stage, rows_of, slice_get, slice_get_within, some_and, subst, sym, zip_length, ℕ, ◌<◌, ◌∙◌, ◌≡◌}
use Rattle.mig_base.specs.declared.faults.FileKind.TheVariants as file
use Rattle.mig_csv.specs.declared.errors.InputError.TheVariants as error
use Rattle.mig_csv.proofs.Whole.{clean_now, refusal_of_disks, refusal_of_now}

module _ (disks now : List ℕ) where
  -- the two files beside an empty one
  abbrev pub both : ThreeFiles
  both = record { disks = disks; now = now; next = [] }

  refused : (f : FileKind) (n : ℕ) (w : Why) → RefusedAs both f n w → ListingFault disks now f n w → ListingRefusedAs disks now f n w
  refused f n w told fault = record { fault = fault; first = λ g m v before. at g m v before }
    where
      at : (g : FileKind) (m : ℕ) (v : Why) → Precedes g m v f n w → ¬ (ListingFault disks now g m v)
      at file.Disks m v before h = told.first file.Disks m v before (own_stage both file.Disks m v h).1
      at file.Now m v before h = told.first file.Now m v before (own_stage both file.Now m v h).1
      at file.Next m v before h = absurd h

  pub listing_of_disks : (e : InputError) → IsRefusalOf file.Disks (DisksFault disks) e → IsListingRefusal disks now e
  listing_of_disks (error.Refused f n w) h = refused f n w (refusal_of_disks both (error.Refused f n w) h) (subst (λ (g : FileKind). ListingFault disks now g n w) (sym h.0) h.1.holds)
  listing_of_disks error.Memory h = tt

  module _ (items : List Disk) (at : items ≡ disks_of disks) (clean : (n : ℕ) (w : Why) → ¬ (DisksFault disks n w)) where
    pub listing_of_now : (e : InputError) → IsRefusalOf file.Now (NowFault items now) e → IsListingRefusal disks now e
    listing_of_now (error.Refused f n w) h = refused f n w (refusal_of_now both items (error.Refused f n w) at clean h)
        (subst (λ (g : FileKind). ListingFault disks now g n w) (sym h.0) (subst (λ (ds : List Disk). NowFault ds now n w) at h.1.holds))
    listing_of_now error.Memory h = tt

    pub sound : ((n : ℕ) (w : Why) → ¬ (NowFault items now n w)) → (f : FileKind) (n : ℕ) (w : Why) → ¬ (ListingFault disks now f n w)
    sound clean_items file.Disks n w h = clean n w h
    sound clean_items file.Now n w h = clean_now both items at clean_items n w h
    sound clean_items file.Next n w h = absurd h

    -- the lists that were read are an input
    pub listing_is_input : (i : InputLists) → i.disks ≡ items → ((n : ℕ) (w : Why) → ¬ (NowFault items now n w)) → i.items ≡ map first (rows_of now) → AllZip (IsSpotNamed i.disks) (rows_of now) i.spots
        → All (IsSpotOf i.disks) i.spots → i.next ≡ map (λ (spot : Spot). spot.disk) i.spots → IsInput i
    listing_is_input i is clean_items names spots on_disks next = listed-IsInput both i clean (clean_now both items at clean_items) (is ∙ at) names spots
        (ap (λ (ds : List DiskId). length ds) next ∙ length-map i.spots (λ (spot : Spot). spot.disk) ∙ zip_length (IsSpotNamed i.disks) (rows_of now) i.spots spots ∙ sym (ap (λ (ns : List (List ℕ)). length ns) names ∙ length-map (rows_of now) first))
        (subst (All (λ (disk : DiskId). disk.0 < length i.disks)) (sym next) there)
      where
        there : All (λ (disk : DiskId). disk.0 < length i.disks) (map (λ (spot : Spot). spot.disk) i.spots)
        there k d lt =
            let within : k < length i.spots = subst (λ (n : ℕ). k < n) (length-map i.spots (λ (spot : Spot). spot.disk)) lt in
            let s : Spot = record { disk = d; slot = 0 } in
            let found = some_and (λ (disk : Disk). (get_or i.spots k s).slot < disk.slots) (slice_get i.disks (get_or i.spots k s).disk.0) (on_disks k s within) in
            subst (λ (v : DiskId). v.0 < length i.disks) (sym (get_or-map (λ (spot : Spot). spot.disk) i.spots k s d within)) (slice_get_within i.disks (get_or i.spots k s).disk.0 found.0 found.1)
