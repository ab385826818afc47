pub mod FileLemmas
pub mod SynthLemmas
pub mod OneSynth
