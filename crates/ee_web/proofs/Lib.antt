mod DraftSteps
mod PlayedSteps
mod Mirrors
mod AnsweredCalls
