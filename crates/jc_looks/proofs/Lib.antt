pub mod LooksLemmas
