mod CompleteLemmas
mod IsolateLemmas
