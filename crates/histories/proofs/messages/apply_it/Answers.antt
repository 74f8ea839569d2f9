-- `histories::messages::apply_it` is safe: the work area, once made, keeps its length, which is too long to count out.
use Rattle.std.proofs.Common.{◌≡◌, ℕ, length, sym, ◌∙◌}
use Rattle.std.proofs.Math.ListN.{replicate}
use Rattle.std.proofs.lemmas.List.{length-replicate}
use Rattle.histories.proofs.messages.apply_it.Goals as goal

made : (n : ℕ) → n ≡ length {A = ℕ} (replicate n 0)
made n = sym (length-replicate {A = ℕ} n 0)

pub slice_bounds-keep-end : goal.slice_bounds-keep-end
slice_bounds-keep-end c = made 614400

pub slice_bounds-apply_kept-end : goal.slice_bounds-apply_kept-end
slice_bounds-apply_kept-end c = made 614400 ∙ sym c.keep.auto.kept
