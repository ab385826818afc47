mod TableLemmas
mod PropositionLemmas
