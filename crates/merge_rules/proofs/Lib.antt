-- Lemmas on auto steps.
mod StepLaws
mod EndLaws
