pub mod GatingLemmas
