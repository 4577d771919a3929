pub use Rattle.vx_chunked.proofs.Ascends
pub use Rattle.vx_lemmas.proofs.Results
pub use Rattle.vx_model.proofs.ShownRows
pub use Rattle.vx_select.proofs.Selecting
pub use Rattle.vx_steps.proofs.Walks
pub use Rattle.vx_text.proofs.BuiltTexts
