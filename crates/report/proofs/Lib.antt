mod OpenSites
mod CourseLemmas
mod Room
mod RefusalLemmas
mod StepLemmas
