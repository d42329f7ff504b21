mod FaultLemmas
mod Named
