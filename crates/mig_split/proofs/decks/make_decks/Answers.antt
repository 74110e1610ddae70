use Rattle.mig_split.proofs.Common.{AreDecks, AreFresh, Deck, DiskId, List, [], ap, arith, get_or, length, refl, replicate, subst, sym, take, take_all, ℕ, ◌++◌, ◌+◌, ◌-◌, ◌∙◌, ◌∷◌, ◌≡◌}
use Rattle.mig_split.proofs.Rows.{AreDecks-more, AreFresh-more}
use Rattle.mig_split.proofs.decks.make_decks.Goals as goal

resized : (homes new : List DiskId) (n m count v : ℕ) → n ≡ length homes → m ≡ n → new ≡ take (n + count) homes ++ replicate (n + count - m) (record { 0 = v }) → new ≡ homes ++ replicate count (record { 0 = v })
resized homes new n m count v h same e =
    e ∙ ap (λ (xs : List DiskId). xs ++ replicate (n + count - m) (record { 0 = v })) (take_all (n + count) homes (omega arith)) ∙ ap (λ m. homes ++ replicate m (record { 0 = v })) (omega arith)

pub loop-disk-preserved : goal.loop-disk-preserved
loop-disk-preserved c =
    let i = c.loop-disk.disk in
    let n = get_or c.args.numbers.now i 0 in
    let deck : Deck = record { first = c.len-first.result; count = n; start = 0; next = 0 } in
    let row : c.resize.new.self.items ≡ c.loop-disk.homes.items ++ replicate n (record { 0 = i }) = resized c.loop-disk.homes.items c.resize.new.self.items c.len-first.result c.loop-disk.homes.len n i (omega arith) (omega arith) c.in_ok-resize.ensures.items in
    let more = AreDecks-more c.args.numbers.now c.loop-disk.decks.items c.loop-disk.homes.items i deck c.loop-disk-test.true (omega arith) refl c.loop-disk.invariant.decks in
    record {
      decks = subst (λ (ds : List Deck). AreDecks (take (i + 1) c.args.numbers.now) ds c.resize.new.self.items) (sym c.in_ok-push.ensures.items)
          (subst (λ (hs : List DiskId). AreDecks (take (i + 1) c.args.numbers.now) (c.loop-disk.decks.items ++ deck ∷ []) hs) (sym row) more);
      fresh = subst (λ (ds : List Deck). AreFresh ds) (sym c.in_ok-push.ensures.items) (AreFresh-more c.loop-disk.decks.items deck (refl, refl) c.loop-disk.invariant.fresh);
    }
